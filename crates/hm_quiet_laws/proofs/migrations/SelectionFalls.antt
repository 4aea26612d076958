-- A migration's first guard: pages frozen, or found fresh.
use Rattle.std.proofs.Common.{◌≡◌, ℕ, ◌+◌, ◌*◌, ◌-◌, ◌<◌, ◌≤◌, Bool, true, false, ◌==◌, nat_lt, Option, Some, None, List, [], ◌∷◌, ◌++◌, refl, ap, arith}
use Rattle.std.proofs.Math.Nat.{mul-le-mul_right}
use Rattle.std.proofs.lemmas.Bool.Decides.{nat_tests}
use Rattle.hm_base.specs.declared.cause.Cause.{Cause}
use Rattle.hm_base.specs.Pages.{Pages}
use Rattle.hm_base.specs.Areas.{last_of}
use Rattle.hm_base.specs.Program.{Program}
use Rattle.hm_base.specs.declared.Frame.{Frame}
use Rattle.hm_base.specs.declared.Place.{Place}
use Rattle.hm_base.specs.declared.ops.Op.{Op}
use Rattle.hm_history.specs.declared.phases.MoveStep.{MoveStep}
use Rattle.hm_history.specs.declared.phases.MoveStep.TheVariants.{FreezeOthers, TakeAndCopy, Commit, SetOwnTable, Finish}
use Rattle.hm_history.specs.Memory.Words.{sys_frame, dev_frame, names_directly, is_empty_place}
use Rattle.hm_history.specs.Memory.Plain.{in_window, rights_of, mirror_proc, mirror_dev}
use Rattle.hm_history.specs.Memory.Sequences.{some_overlap}
use Rattle.hm_history.specs.Memory.Locks.{orphan, other_locker, writer}
use Rattle.hm_history.specs.Memory.After.{After}
use Rattle.hm_history.specs.Kernel.Operation.{op_mirror, is_to_device, is_migration}
use Rattle.hm_history.specs.Kernel.Quiet.{attaches, over_ops, guard_cost, home_cost, process_count}
use Rattle.hm_history.specs.Kernel.Stacks.{dropping}
use Rattle.hm_history.specs.Kernel.Due.{start_entry, in_window_rlock, select_page, select_to_device, select_to_system, kept_or_frozen, due_body, body_or_end, due_ready, due_begin}
use Rattle.hm_history.specs.declared.KeptAt.{KeptAt}
use Rattle.hm_history.specs.declared.KeptWhy.{KeptWhy}
use Rattle.hm_history.specs.declared.Kind.{Kind}
use Rattle.hm_history.specs.declared.phases.Migrating.{Migrating}
use Rattle.hm_history.specs.declared.phases.Body.{Body}
use Rattle.hm_history.specs.declared.phases.Phase.{Phase}
use Rattle.hm_history.specs.declared.phases.Next.TheVariants.{Do}
use Rattle.hm_history.proofs.Frames.{is_frame_of}
use Rattle.hm_laws.specs.Past.{Past, past_next}
use Rattle.hm_laws.specs.Allowed.{next}
use Rattle.hm_laws.specs.Records.{is_past, pages_below}
use Rattle.hm_laws.specs.Facts.{HoldsAll, facts, readying}
use Rattle.hm_laws.proofs.Migration.Records.{below_page}
use Rattle.hm_laws.proofs.Due.Good.{either, either_option}
use Rattle.hm_quiet_laws.proofs.measure.Left.{View, view, placed_view, left, told_left, direct_at, moving_at, unless, source_left, record_left, records_left, span_from}
use Rattle.hm_quiet_laws.proofs.measure.Counts.{Few}
use Rattle.hm_quiet_laws.proofs.alone.Ends.{StepsTo}
use Rattle.hm_quiet_laws.proofs.counts.CountsBelow.{told_few}
use Rattle.hm_quiet_laws.proofs.counts.UsesOfAFrame.{direct_frozen, moving_frozen}
use Rattle.hm_quiet_laws.proofs.migrations.RecordsLeft.{sum_most, sum_more}
use Rattle.hm_quiet_laws.proofs.migrations.ItemsLeft.{source_apart}
use Rattle.hm_quiet_laws.proofs.migrations.StepsFall.{OnMoves}
use Rattle.hm_quiet_laws.proofs.migrations.GuardsFall.{InGuardM}
use Rattle.hm_quiet_laws.proofs.measure.Shapes.{no_test}

-- a new record costs no more than bringing a frame home
unless_most : (b : Bool) (n : ℕ) → unless b n ≤ n
unless_most true n = omega arith
unless_most false n = omega arith

some_process : (c : Program) → 1 ≤ process_count c
some_process c = omega arith

fresh_cost : (c : Program) (y : View) (step : MoveStep) (n v : ℕ) → source_left c y step n v None ≤ home_cost c
fresh_cost c y step n v = omega (arith, unless_most (is_past step n TakeAndCopy v) 1, unless_most (is_past step n Commit v) (guard_cost c + 1), unless_most (is_past step n SetOwnTable v) 1, unless_most (is_past step n Finish v) 1, mul-le-mul_right (guard_cost c + 2) (some_process c))

frozen_fits : (u d m g : ℕ) → d + 1 ≤ u → d + m ≤ u → d * (g + 2) + 9 + 1 + 1 + (m + 2) ≤ u * (g + 2) + 12
frozen_fits u d m g h i = omega (arith, mul-le-mul_right (g + 1) h, parts u g, parts d g, one d g)
  where
    parts : (u g : ℕ) → u * (g + 2) ≡ u * (g + 1) + u
    parts u g = grind arith

    one : (d g : ℕ) → (d + 1) * (g + 1) ≡ d * (g + 1) + (g + 1)
    one d g = grind arith

frozen_cost : (c : Program) (y : View) (step : MoveStep) (n v : ℕ) (f : Frame) → direct_at y f v + 1 ≤ process_count c → direct_at y f v + moving_at y f v ≤ process_count c → source_left c y step n v (Some f) ≤ home_cost c
frozen_cost c y step n v f h i = omega (arith, unless_most (is_past step n FreezeOthers v) (direct_at y f v * (guard_cost c + 2)), unless_most (is_past step n TakeAndCopy v) 9, unless_most (is_past step n Commit v) 1, unless_most (is_past step n SetOwnTable v) 1, unless_most (is_past step n Finish v) (moving_at y f v + 2), frozen_fits (process_count c) (direct_at y f v) (moving_at y f v) (guard_cost c) h i)

-- a page less to select
page_less : (r : Pages) (n h : ℕ) → n < last_of r → span_from (n + 1) r * h + h ≤ span_from n r * h
page_less r n h l = omega (arith, mul-le-mul_right h (less r n l), one (span_from (n + 1) r) h)
  where
    less : (r : Pages) (n : ℕ) → n < last_of r → span_from (n + 1) r + 1 ≤ span_from n r
    less r n l = omega arith

    one : (d h : ℕ) → (d + 1) * h ≡ d * h + h
    one d h = grind arith

-- old records at a page that is above theirs
old_records : (c : Program) (y : View) (p n : ℕ) (x : Place) (step : MoveStep) (v : ℕ) (xs : List Migrating) → pages_below n xs ≡ true → records_left c (placed_view y p n x) step v xs ≤ records_left c y step v xs
old_records c y p n x step v xs h = sum_most (record_left c y step v) (record_left c (placed_view y p n x) step v) xs (λ w j. source_apart c y p n x step v w.page w.source (apart w.page (below_page n xs w h j)))
  where
    apart : (u : ℕ) → u < n → u ≡ n → ⊥
    apart u l e = omega (arith, l, e)

pub select_in : (c : Program) (s : After) (t : Past) (a : ℕ) (o : Op) (xs : List Migrating) (p : ℕ) (r : Pages) (met : Bool) (told : Option ℕ) (n : ℕ) (step : MoveStep) (v : ℕ) → Few c s → pages_below n xs ≡ true →
    InGuardM c s t a o xs p r met told (Body.Select n) (Phase.Moves step v ∷ []) (body_or_end s p r (due_body s a o p r (s.places.place p r.first) (Body.Select n)))
select_in c s t a o xs p r met told n step v fw pb = either (λ z. P (body_or_end s p r z)) (nat_lt n (r.first + r.count)) (Some (select_page s a o p n)) None (λ l. selects (grind (arith, nat_tests))) (λ l gd. (omega arith, refl))
  where
    P : Kind → Type 0
    P = InGuardM c s t a o xs p r met told (Body.Select n) (Phase.Moves step v ∷ [])

    passed : n < last_of r → (w : KeptWhy) → P (Kind.Kept (KeptAt.Page n) w)
    passed l w gd = (omega (arith, page_less r n (home_cost c + 1) l), refl)

    fresh : n < last_of r → P (Kind.Fresh p n)
    fresh l gd = (omega (arith, page_less r n (home_cost c + 1) l, sum_more (record_left c (view s) step v) xs (record { page = n; source = None; dest = None; moved = false }), fresh_cost c (view s) step v n), refl)

    frozen : n < last_of r → (f : Frame) (w : Bool) → names_directly (s.places.place p n) ≡ Some f → P (Kind.Place p n (Place.Moving f w))
    frozen l f w e gd = at (orphan s.locks s.places k) gd.2
      where
        k : Kind
        k = Kind.Place p n (Place.Moving f w)

        y : View
        y = placed_view (view s) p n (Place.Moving f w)

        new : Migrating
        new = record { page = n; source = Some f; dest = None; moved = false }

        used : (z : Place) → names_directly z ≡ Some f → is_empty_place z ≡ false
        used z i = grind arith

        fewer : direct_at y f n + 1 ≤ direct_at (view s) f n
        fewer = direct_frozen (view s) p n f w (fw.few_processes p n (used (s.places.place p n) e)) (is_frame_of (names_directly (s.places.place p n)) f e)

        cost : source_left c y step v n (Some f) ≤ home_cost c
        cost = frozen_cost c y step v n f (omega (arith, fewer, fw.uses f n)) (omega (arith, fewer, moving_frozen (view s) p n f (Place.Moving f w), fw.uses f n))

        at : (z : Option Frame) → HoldsAll (next s a k) (past_next t s.length a k) a (facts o (xs ++ new ∷ []) (dropping z (Phase.Guard p r met told (Body.Select (n + 1)) ∷ Phase.Moves step v ∷ []))) → (left c (next s a k) a o (xs ++ new ∷ []) (dropping z (Phase.Guard p r met told (Body.Select (n + 1)) ∷ Phase.Moves step v ∷ [])) < left c s a o xs (Phase.Guard p r met told (Body.Select n) ∷ Phase.Moves step v ∷ [])) × OnMoves (dropping z (Phase.Guard p r met told (Body.Select (n + 1)) ∷ Phase.Moves step v ∷ []))
        at None h = (omega (arith, page_less r n (home_cost c + 1) l, sum_more (record_left c y step v) xs new, cost, old_records c (view s) p n (Place.Moving f w) step v xs pb), refl)
        at (Some i) h = absurd h.0

    chosen : n < last_of r → (f : Frame) (w : Bool) → names_directly (s.places.place p n) ≡ Some f → P (kept_or_frozen s a p n f w)
    chosen l f w e = either_option P (other_locker s.locks f a) _ _ (λ i. frozen l f w e) (λ b i. passed l (KeptWhy.LockedBy b))

    to_device : n < last_of r → (x : Place) → s.places.place p n ≡ x → P (select_to_device s a p n x)
    to_device l Place.Empty e = fresh l
    to_device l Place.Zero e = fresh l
    to_device l (Place.Sys m w) e = chosen l (sys_frame m) w (ap names_directly e)
    to_device l (Place.Own d m w) e = passed l KeptWhy.NotHere
    to_device l (Place.Moving f w) e = passed l KeptWhy.NotHere
    to_device l (Place.Exclusive m b) e = passed l KeptWhy.NotHere

    to_system : n < last_of r → (d : ℕ) (x : Place) → s.places.place p n ≡ x → P (select_to_system s a d p n x)
    to_system l d (Place.Own i m w) e = either P (d == i) _ _ (λ j. chosen l (dev_frame i m) w (ap names_directly e)) (λ j. passed l KeptWhy.NotHere)
    to_system l d Place.Empty e = passed l KeptWhy.NotHere
    to_system l d Place.Zero e = passed l KeptWhy.NotHere
    to_system l d (Place.Sys m w) e = passed l KeptWhy.NotHere
    to_system l d (Place.Moving f w) e = passed l KeptWhy.NotHere
    to_system l d (Place.Exclusive m b) e = passed l KeptWhy.NotHere

    selects : n < last_of r → P (select_page s a o p n)
    selects l = either P (is_to_device o) _ _ (λ e. either_option P (rights_of s.plain p n) _ _ (λ i. passed l KeptWhy.NotHere) (λ w i. to_device l (s.places.place p n) refl)) (λ e. to_system l (mirror_dev s.plain (op_mirror o)) (s.places.place p n) refl)

whole_span : (r : Pages) (h : ℕ) → span_from r.first r * h ≡ r.count * h
whole_span r h = ap (λ k. k * h) (same r)
  where
    same : (r : Pages) → last_of r - r.first ≡ r.count
    same r = omega arith

opened : (c : Program) (s : After) (a p : ℕ) (r : Pages) → Few c s → told_left (next s a (start_entry s p r)) p r (some_overlap s.sequences p r) None ≤ over_ops attaches c
opened c s a p r f = told_few (next s a (start_entry s p r)) p r (some_overlap s.sequences p r) None (over_ops attaches c) f.mirrors

pub ready_m : (c : Program) (s : After) (t : Past) (a : ℕ) (o : Op) (xs : List Migrating) → is_migration o ≡ true → Few c s → HoldsAll s t a (readying o xs) → StepsTo c s a o xs Phase.Ready [] OnMoves (Do (due_ready s o))
ready_m c s t a (Op.ToDevice m r) [] i f h = (omega (arith, opened c s a (mirror_proc s.plain m) r f, whole_span r (home_cost c + 1)), refl)
ready_m c s t a (Op.ToSystem m r) [] i f h = (omega (arith, opened c s a (mirror_proc s.plain m) r f, whole_span r (home_cost c + 1)), refl)
ready_m c s t a (Op.ToDevice m r) (x ∷ xs) i f h = absurd (no_test h.0)
ready_m c s t a (Op.ToSystem m r) (x ∷ xs) i f h = absurd (no_test h.0)
ready_m c s t a o xs i f h = absurd (no_test i)

begin_at : (c : Program) (s : After) (a : ℕ) (o : Op) (xs : List Migrating) (m : ℕ) (r : Pages) → StepsTo c s a o xs Phase.Begin [] OnMoves (Do (Kind.Rlock (mirror_proc s.plain m))) → StepsTo c s a o xs Phase.Begin [] OnMoves (Do (Kind.Refused Cause.Outside)) → StepsTo c s a o xs Phase.Begin [] OnMoves (in_window_rlock s m r)
begin_at c s a o xs m r h k = either (StepsTo c s a o xs Phase.Begin [] OnMoves) (in_window s.plain m r) _ _ (λ e. either_option (StepsTo c s a o xs Phase.Begin [] OnMoves) (writer s.locks (mirror_proc s.plain m)) _ _ (λ w. h) (λ b w. tt)) (λ e. k)

pub begin_m : (c : Program) (s : After) (a : ℕ) (o : Op) (xs : List Migrating) → is_migration o ≡ true → StepsTo c s a o xs Phase.Begin [] OnMoves (due_begin s a o)
begin_m c s a (Op.ToDevice m r) xs i = begin_at c s a (Op.ToDevice m r) xs m r (omega arith, refl) (omega arith, refl)
begin_m c s a (Op.ToSystem m r) xs i = begin_at c s a (Op.ToSystem m r) xs m r (omega arith, refl) (omega arith, refl)
begin_m c s a o xs i = absurd (no_test i)
