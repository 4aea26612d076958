-- A migration's guards, copies and returns.
use Rattle.std.proofs.Common.{◌≡◌, ℕ, ◌+◌, ◌-◌, ◌<◌, ◌≤◌, ◌⊎◌, inl, inr, Bool, true, false, nat_lt, if◌then◌else◌, Option, Some, None, List, [], ◌∷◌, refl, sym, ap, ◌∙◌, arith}
use Rattle.std.proofs.lemmas.Bool.Decides.{nat_tests}
use Rattle.std.proofs.lemmas.Bool.{cases_eq}
use Rattle.hm_base.specs.Pages.{Pages}
use Rattle.hm_base.specs.Program.{Program}
use Rattle.hm_base.specs.declared.Frame.{Frame}
use Rattle.hm_base.specs.declared.Place.{Place}
use Rattle.hm_base.specs.declared.ops.Op.{Op}
use Rattle.hm_history.specs.declared.phases.MoveStep.{MoveStep}
use Rattle.hm_history.specs.declared.phases.MoveStep.TheVariants.{FreezeOthers, TakeAndCopy, Commit, SetOwnTable, Finish}
use Rattle.hm_history.specs.Memory.Words.{names_directly, is_frame, writable, place_in}
use Rattle.hm_history.specs.Memory.Plain.{rights_of, is_read_write}
use Rattle.hm_history.specs.Memory.Places.{lowest_moving, lowest_named}
use Rattle.hm_history.specs.Memory.Sequences.{seq_ended}
use Rattle.hm_history.specs.Memory.Locks.{orphan}
use Rattle.hm_history.specs.Memory.After.{After}
use Rattle.hm_history.specs.Kernel.Stacks.{dropping}
use Rattle.hm_history.specs.Kernel.Going.{with_record}
use Rattle.hm_history.specs.Kernel.Due.{to_tell, if_so, has_no_frame, due_body, body_or_end, due_guard, due_finish, settle}
use Rattle.hm_history.specs.declared.Kind.{Kind}
use Rattle.hm_history.specs.declared.phases.Migrating.{Migrating}
use Rattle.hm_history.specs.declared.phases.Body.{Body}
use Rattle.hm_history.specs.declared.phases.Phase.{Phase}
use Rattle.hm_history.specs.declared.phases.Next.TheVariants.{Do}
use Rattle.hm_laws.specs.Records.{same_step}
use Rattle.hm_laws.specs.Past.{Past, past_next}
use Rattle.hm_laws.specs.Sound.{Sound}
use Rattle.hm_laws.specs.Allowed.{next}
use Rattle.hm_laws.specs.Records.{Among, WellListed, has_fresh}
use Rattle.hm_laws.specs.Facts.{HoldsAll, facts}
use Rattle.hm_laws.proofs.Kept.Sound.{kept}
use Rattle.hm_laws.proofs.Migration.Records.{fresh_found, one_of_page}
use Rattle.hm_laws.proofs.Due.Good.{Good, either_option}
use Rattle.hm_quiet_laws.proofs.measure.Left.{View, view, placed_view, left, source_left, record_left, records_left, body_left}
use Rattle.hm_quiet_laws.proofs.measure.Counts.{Few}
use Rattle.hm_quiet_laws.proofs.measure.Shapes.{on_move_body, no_test}
use Rattle.hm_quiet_laws.proofs.alone.Ends.{StepsTo}
use Rattle.hm_quiet_laws.proofs.spans.TellingsFall.{told_falls}
use Rattle.hm_quiet_laws.proofs.faults.TakesFall.{if_true, if_false}
use Rattle.hm_quiet_laws.proofs.accesses.HomeFalls.{fewer_moving, not_moving}
use Rattle.hm_quiet_laws.proofs.migrations.RecordsLeft.{sum_most, same_record}
use Rattle.hm_quiet_laws.proofs.migrations.ItemsLeft.{source_apart, records_returned}
use Rattle.hm_quiet_laws.proofs.migrations.StepsFall.{OnMoves}

abbrev pub InGuardM : Program → After → Past → ℕ → Op → List Migrating → ℕ → Pages → Bool → Option ℕ → Body → List Phase → Kind → Type 0
InGuardM c s t a o xs p r met told body below k = Good c s t a o xs (Phase.Guard p r met told body) below (Do k) → StepsTo c s a o xs (Phase.Guard p r met told body) below OnMoves (Do k)

pub told_inm : (c : Program) (s : After) (t : Past) (a : ℕ) (o : Op) (xs : List Migrating) (p : ℕ) (r : Pages) (met : Bool) (told : Option ℕ) (body : Body) (below : List Phase) → Sound c s t → on_move_body body below ≡ true →
    InGuardM c s t a o xs p r met told body below (body_or_end s p r (due_body s a o p r (s.places.place p r.first) body)) → InGuardM c s t a o xs p r met told body below (due_guard s a o p r met told body)
told_inm c s t a o xs p r met told body below so on h = either_option (InGuardM c s t a o xs p r met told body below) (to_tell s p r met told) _ _ (λ e. h) (λ m e g. (told_falls c s t a o xs p r met told body below m so e, on))

-- another mapping frozen
pub freeze_inm : (c : Program) (s : After) (t : Past) (a : ℕ) (o : Op) (xs : List Migrating) (p : ℕ) (r : Pages) (met : Bool) (told : Option ℕ) (f : Frame) (step : MoveStep) (v : ℕ) →
    InGuardM c s t a o xs p r met told (Body.Freeze f) (Phase.Moves step v ∷ []) (body_or_end s p r (due_body s a o p r (s.places.place p r.first) (Body.Freeze f)))
freeze_inm c s t a o xs p r met told f step v = by (is_frame (names_directly (s.places.place p r.first)) f) refl
  where
    k : Kind
    k = Kind.Place p r.first (Place.Moving f (writable (s.places.place p r.first)))

    y : View
    y = placed_view (view s) p r.first (Place.Moving f (writable (s.places.place p r.first)))

    by : (b : Bool) → is_frame (names_directly (s.places.place p r.first)) f ≡ b → InGuardM c s t a o xs p r met told (Body.Freeze f) (Phase.Moves step v ∷ []) (body_or_end s p r (if_so b k))
    by true e gd = at (orphan s.locks s.places k) gd.2
      where
        before : body_left c (view s) s.locks.frame a o xs p r (s.places.place p r.first) (Body.Freeze f) (Phase.Moves step v ∷ []) ≡ 2 + (records_left c y step v xs + 1)
        before = if_true (is_frame (names_directly (s.places.place p r.first)) f) (2 + (records_left c y step v xs + 1)) (1 + (records_left c (view s) step v xs + 1)) e

        at : (z : Option Frame) → HoldsAll (next s a k) (past_next t s.length a k) a (facts o xs (dropping z (Phase.Guard p r met told Body.Nothing ∷ Phase.Moves step v ∷ []))) → (left c (next s a k) a o xs (dropping z (Phase.Guard p r met told Body.Nothing ∷ Phase.Moves step v ∷ [])) < left c s a o xs (Phase.Guard p r met told (Body.Freeze f) ∷ Phase.Moves step v ∷ [])) × OnMoves (dropping z (Phase.Guard p r met told Body.Nothing ∷ Phase.Moves step v ∷ []))
        at None h = (omega (arith, before), refl)
        at (Some i) h = absurd h.0
    by false e gd = (omega (arith, if_false (is_frame (names_directly (s.places.place p r.first)) f) (2 + (records_left c y step v xs + 1)) (1 + (records_left c (view s) step v xs + 1)) e), refl)

pub nothing_inm : (c : Program) (s : After) (t : Past) (a : ℕ) (o : Op) (xs : List Migrating) (p : ℕ) (r : Pages) (met : Bool) (told : Option ℕ) (step : MoveStep) (v : ℕ) → InGuardM c s t a o xs p r met told Body.Nothing (Phase.Moves step v ∷ []) (Kind.End p r (seq_ended s.sequences p))
nothing_inm c s t a o xs p r met told step v gd = (omega arith, refl)

-- the taken frame under a fresh page
fresh_view : (c : Program) (y : View) (p u : ℕ) (x : Place) (step : MoveStep) (v : ℕ) (xs : List Migrating) (z : Migrating) → WellListed xs → Among xs z → z.page ≡ u → z.source ≡ None → records_left c (placed_view y p u x) step v xs ≤ records_left c y step v xs
fresh_view c y p u x step v xs z wl i pg sr = sum_most (record_left c y step v) (record_left c (placed_view y p u x) step v) xs (λ w j. at w j (cases_eq w.page u))
  where
    none : (f : Option Frame) → f ≡ None → (n : ℕ) → source_left c (placed_view y p u x) step v n f ≤ source_left c y step v n f
    none None e n = omega arith
    none (Some f) e n = cc

    at : (w : Migrating) → Among xs w → (w.page ≡ u) ⊎ (w.page ≡ u → ⊥) → record_left c (placed_view y p u x) step v w ≤ record_left c y step v w
    at w j (inl e) = none w.source (ap (λ (q : Migrating). q.source) (one_of_page xs w z wl j i (e ∙ sym pg)) ∙ sr) w.page
    at w j (inr ne) = source_apart c y p u x step v w.page w.source ne

pub fresh_inm : (c : Program) (s : After) (t : Past) (a : ℕ) (o : Op) (xs : List Migrating) (p : ℕ) (r : Pages) (met : Bool) (told : Option ℕ) (g : Frame) (step : MoveStep) (v : ℕ) → WellListed xs → has_fresh r.first g xs ≡ true →
    InGuardM c s t a o xs p r met told (Body.Fresh g) (Phase.Moves step v ∷ []) (body_or_end s p r (due_body s a o p r (s.places.place p r.first) (Body.Fresh g)))
fresh_inm c s t a o xs p r met told g step v wl hf = by (has_no_frame (s.places.place p r.first)) refl
  where
    x : Place
    x = place_in g (is_read_write (rights_of s.plain p r.first))

    k : Kind
    k = Kind.Place p r.first x

    new : Migrating
    new = record { page = r.first; source = None; dest = Some g; moved = true }

    z : (y : Migrating) × Among xs y × (y.page ≡ r.first) × (y.source ≡ None) × (y.dest ≡ Some g) × (y.moved ≡ false)
    z = fresh_found r.first g xs hf

    fits : records_left c (placed_view (view s) p r.first x) step v (with_record new xs) ≤ records_left c (view s) step v xs
    fits = omega (arith, same_record c (placed_view (view s) p r.first x) step v xs new z.0 wl z.1 (sym z.2) (sym z.3), fresh_view c (view s) p r.first x step v xs z.0 wl z.1 z.2 z.3)

    by : (b : Bool) → has_no_frame (s.places.place p r.first) ≡ b → InGuardM c s t a o xs p r met told (Body.Fresh g) (Phase.Moves step v ∷ []) (body_or_end s p r (if_so b k))
    by true e gd = at (orphan s.locks s.places k) gd.2
      where
        at : (w : Option Frame) → HoldsAll (next s a k) (past_next t s.length a k) a (facts o (with_record new xs) (dropping w (Phase.Guard p r met told Body.Nothing ∷ Phase.Moves step v ∷ []))) → (left c (next s a k) a o (with_record new xs) (dropping w (Phase.Guard p r met told Body.Nothing ∷ Phase.Moves step v ∷ [])) < left c s a o xs (Phase.Guard p r met told (Body.Fresh g) ∷ Phase.Moves step v ∷ [])) × OnMoves (dropping w (Phase.Guard p r met told Body.Nothing ∷ Phase.Moves step v ∷ []))
        at None h = (omega (arith, fits, if_true (has_no_frame (s.places.place p r.first)) 2 3 e), refl)
        at (Some i) h = absurd h.0
    by false e gd = (omega (arith, if_false (has_no_frame (s.places.place p r.first)) 2 3 e), refl)

-- copies and returns
pub copy_m : (c : Program) (s : After) (a : ℕ) (o : Op) (xs : List Migrating) (f g : Frame) (k : ℕ) (step : MoveStep) (v : ℕ) → k ≤ 7 → StepsTo c s a o xs (Phase.Copy f g k) (Phase.Moves step v ∷ []) OnMoves (Do (Kind.Copied f g (Some k)))
copy_m c s a o xs f g k step v h = by (nat_lt k 7) refl
  where
    less : (b : Bool) → nat_lt k 7 ≡ b → b ≡ true → k < 7
    less b e i = grind (arith, nat_tests)

    one : (n : ℕ) → k < 7 → (8 - (k + 1)) + n < (8 - k) + n
    one n l = omega arith

    last : (n : ℕ) → n < (8 - k) + n
    last n = omega arith

    by : (b : Bool) → nat_lt k 7 ≡ b → (left c (next s a (Kind.Copied f g (Some k))) a o xs (if b then Phase.Copy f g (k + 1) ∷ Phase.Moves step v ∷ [] else (Phase.Moves step v ∷ [])) < left c s a o xs (Phase.Copy f g k ∷ Phase.Moves step v ∷ [])) × OnMoves (if b then Phase.Copy f g (k + 1) ∷ Phase.Moves step v ∷ [] else (Phase.Moves step v ∷ []))
    by true e = (one (records_left c (view s) step v xs + 1) (less true e refl), refl)
    by false e = (last (records_left c (view s) step v xs + 1), refl)

finish_last : (c : Program) (s : After) (t : Past) (a : ℕ) (o : Op) (xs : List Migrating) (f : Frame) (to : Option Frame) (v : ℕ) → Sound c s t → Few c s → Good c s t a o xs (Phase.Finish f to) (Phase.Moves Finish v ∷ []) (Do (due_finish s f to)) → StepsTo c s a o xs (Phase.Finish f to) (Phase.Moves Finish v ∷ []) OnMoves (Do (due_finish s f to))
finish_last c s t a o xs f (Some g) v so fw = either_option P (lowest_moving s.places f) _ _ (λ e gd. (omega arith, refl))
    (λ x e gd. (omega (arith, fewer_moving c s t a f g (writable (s.places.place x.0 x.1)) x so fw (kept c s t a (Kind.Place x.0 x.1 (place_in g (writable (s.places.place x.0 x.1)))) so gd.0) e, records_returned c (view s) x.0 x.1 v (place_in g (writable (s.places.place x.0 x.1))) xs (not_moving g (writable (s.places.place x.0 x.1)))), refl))
  where
    P : Kind → Type 0
    P k = Good c s t a o xs (Phase.Finish f (Some g)) (Phase.Moves Finish v ∷ []) (Do k) → StepsTo c s a o xs (Phase.Finish f (Some g)) (Phase.Moves Finish v ∷ []) OnMoves (Do k)
finish_last c s t a o xs f None v so fw = either_option P (lowest_moving s.places f) _ _ (λ e. either_option P (lowest_named s.places f) _ _ (λ i gd. (omega arith, refl)) (λ x i gd. (omega arith, refl)))
    (λ x e gd. (omega (arith, fewer_moving c s t a f f (writable (s.places.place x.0 x.1)) x so fw (kept c s t a (Kind.Place x.0 x.1 (place_in f (writable (s.places.place x.0 x.1)))) so gd.0) e, records_returned c (view s) x.0 x.1 v (place_in f (writable (s.places.place x.0 x.1))) xs (not_moving f (writable (s.places.place x.0 x.1)))), refl))
  where
    P : Kind → Type 0
    P k = Good c s t a o xs (Phase.Finish f None) (Phase.Moves Finish v ∷ []) (Do k) → StepsTo c s a o xs (Phase.Finish f None) (Phase.Moves Finish v ∷ []) OnMoves (Do k)

pub finish_m : (c : Program) (s : After) (t : Past) (a : ℕ) (o : Op) (xs : List Migrating) (f : Frame) (to : Option Frame) (step : MoveStep) (v : ℕ) → Sound c s t → Few c s → same_step step Finish ≡ true → Good c s t a o xs (Phase.Finish f to) (Phase.Moves step v ∷ []) (Do (due_finish s f to)) → StepsTo c s a o xs (Phase.Finish f to) (Phase.Moves step v ∷ []) OnMoves (Do (due_finish s f to))
finish_m c s t a o xs f to FreezeOthers v so fw e = absurd (no_test e)
finish_m c s t a o xs f to TakeAndCopy v so fw e = absurd (no_test e)
finish_m c s t a o xs f to Commit v so fw e = absurd (no_test e)
finish_m c s t a o xs f to SetOwnTable v so fw e = absurd (no_test e)
finish_m c s t a o xs f to Finish v so fw e = finish_last c s t a o xs f to v so fw

pub settle_m : (c : Program) (s : After) (a : ℕ) (o : Op) (xs : List Migrating) (g : Frame) (step : MoveStep) (v : ℕ) → StepsTo c s a o xs (Phase.Settle g) (Phase.Moves step v ∷ []) OnMoves (Do (settle s g))
settle_m c s a o xs g step v = either_option (λ k. StepsTo c s a o xs (Phase.Settle g) (Phase.Moves step v ∷ []) OnMoves (Do k)) (lowest_named s.places g) _ _ (λ e. (omega arith, refl)) (λ x e. (omega arith, refl))
