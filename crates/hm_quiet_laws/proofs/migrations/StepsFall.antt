-- The steps of a migration.
use Rattle.std.proofs.Common.{◌≡◌, ℕ, ◌+◌, ◌<◌, ◌≤◌, Bool, true, false, nat_lt, is_some, Option, Some, None, List, [], ◌∷◌, refl, sym, ap, subst, arith}
use Rattle.std.proofs.lemmas.Bool.Decides.{nat_tests}
use Rattle.hm_base.specs.Pages.{one_page}
use Rattle.hm_base.specs.Program.{Program}
use Rattle.hm_base.specs.declared.cause.Cause.{Cause}
use Rattle.hm_base.specs.declared.Frame.{Frame}
use Rattle.hm_base.specs.declared.Place.{Place}
use Rattle.hm_base.specs.declared.ops.Op.{Op}
use Rattle.hm_history.specs.declared.phases.MoveStep.{MoveStep}
use Rattle.hm_history.specs.declared.phases.MoveStep.TheVariants.{FreezeOthers, TakeAndCopy, Commit, SetOwnTable, Finish}
use Rattle.hm_history.specs.Memory.Words.{names_directly, moving_frame, is_frame, writable, place_in}
use Rattle.hm_history.specs.Memory.Plain.{mirror_proc}
use Rattle.hm_history.specs.Memory.Places.{lowest_direct, lowest_moving, lowest_named, lowest_free}
use Rattle.hm_history.specs.Memory.Sequences.{some_overlap}
use Rattle.hm_history.specs.Memory.After.{After}
use Rattle.hm_history.specs.Kernel.Operation.{op_mirror}
use Rattle.hm_history.specs.Kernel.Quiet.{attaches, over_ops, guard_cost}
use Rattle.hm_history.specs.Kernel.Stacks.{after_migration, next_cursor}
use Rattle.hm_history.specs.Kernel.Going.{is_direct, recorded_at}
use Rattle.hm_history.specs.Kernel.Due.{start_entry, skips, pool_of, others_of, fetch_page, commit_page, finish_page, has_no_frame}
use Rattle.hm_history.specs.declared.Kind.{Kind}
use Rattle.hm_history.specs.declared.phases.Migrating.{Migrating}
use Rattle.hm_history.specs.declared.phases.Body.{Body}
use Rattle.hm_history.specs.declared.phases.Phase.{Phase}
use Rattle.hm_history.proofs.Frames.{is_frame_from}
use Rattle.hm_laws.specs.Past.{Past}
use Rattle.hm_laws.specs.Sound.{Sound}
use Rattle.hm_laws.specs.Allowed.{next, Allowed}
use Rattle.hm_laws.specs.Records.{is_past, Among, WellListed}
use Rattle.hm_laws.specs.Facts.{records, known_of, HoldsAll}
use Rattle.hm_laws.proofs.Kept.PlaceLocks.{lowest_passes}
use Rattle.hm_laws.proofs.Kept.Sound.{kept}
use Rattle.hm_laws.proofs.Migration.Records.{records_each}
use Rattle.hm_laws.proofs.Migration.Good.{seen_moves}
use Rattle.hm_laws.proofs.Due.Good.{either, either_option}
use Rattle.hm_quiet_laws.proofs.measure.Left.{View, view, placed_view, left, told_left, frame_page, moving_at, records_left, body_left}
use Rattle.hm_quiet_laws.proofs.measure.Counts.{Few}
use Rattle.hm_quiet_laws.proofs.measure.Shapes.{on_moves, no_test}
use Rattle.hm_quiet_laws.proofs.counts.CountsBelow.{told_few}
use Rattle.hm_quiet_laws.proofs.counts.UsesOfAFrame.{page_is}
use Rattle.hm_quiet_laws.proofs.faults.TakesFall.{if_true}
use Rattle.hm_quiet_laws.proofs.accesses.HomeFalls.{fewer_moving, used_place, named_directly, moving_names, not_moving}
use Rattle.hm_quiet_laws.proofs.migrations.RecordsLeft.{same_record}
use Rattle.hm_quiet_laws.proofs.migrations.ItemsLeft.{item, take_some, take_none, commit_some, commit_none, set_any, finish_some, finish_none, records_frozen, records_returned}

abbrev pub OnMoves : List Phase → Type 0
OnMoves st = on_moves st ≡ true

-- what an entry of a migration leads to, at this record, if it is allowed
abbrev pub MoveTo : Program → After → Past → ℕ → Op → List Migrating → MoveStep → ℕ → Option Migrating → Kind → Type 0
MoveTo c s t a o xs step v x k = Allowed c s t a k → (left c (next s a k) a o (recorded_at x xs k) (after_migration step x k (seen_moves s o step v x k)) < records_left c (view s) step v xs + 1) × OnMoves (after_migration step x k (seen_moves s o step v x k))

-- a frame is taken, or the page passed
pub fetch_to : (c : Program) (s : After) (t : Past) (a : ℕ) (o : Op) (xs : List Migrating) (step : MoveStep) (v page : ℕ) (f g : Option Frame) (m : Bool) → WellListed xs → Among xs (record { page = page; source = f; dest = g; moved = m }) → records_left c (view s) TakeAndCopy page xs ≤ records_left c (view s) step v xs →
    MoveTo c s t a o xs step v (Some (record { page = page; source = f; dest = g; moved = m })) (fetch_page c s o page)
fetch_to c s t a o xs step v page f g m wl am b = either P (skips c o page) _ _ (λ e k. (omega (arith, b, one f am), refl))
    (λ e. either_option P (lowest_free c s.places (pool_of s o)) _ _ (λ i k. (omega (arith, b, one f am), refl)) (λ h i. taken h f am))
  where
    P : Kind → Type 0
    P = MoveTo c s t a o xs step v (Some (record { page = page; source = f; dest = g; moved = m }))

    one : (f : Option Frame) → Among xs (record { page = page; source = f; dest = g; moved = m }) → records_left c (view s) TakeAndCopy (page + 1) xs + 1 ≤ records_left c (view s) TakeAndCopy page xs
    one (Some h) am = omega (arith, item c (view s) TakeAndCopy xs (record { page = page; source = Some h; dest = g; moved = m }) 9 am (take_some c (view s) page h))
    one None am = item c (view s) TakeAndCopy xs (record { page = page; source = None; dest = g; moved = m }) 1 am (take_none c (view s) page)

    taken : (h : Frame) (f : Option Frame) → Among xs (record { page = page; source = f; dest = g; moved = m }) → MoveTo c s t a o xs step v (Some (record { page = page; source = f; dest = g; moved = m })) (Kind.Take h)
    taken h (Some i) am k = (omega (arith, b, item c (view s) TakeAndCopy xs (record { page = page; source = Some i; dest = g; moved = m }) 9 am (take_some c (view s) page i), same_record c (view s) TakeAndCopy (page + 1) xs (record { page = page; source = Some i; dest = Some h; moved = m }) (record { page = page; source = Some i; dest = g; moved = m }) wl am refl refl), refl)
    taken h None am k = (omega (arith, b, item c (view s) TakeAndCopy xs (record { page = page; source = None; dest = g; moved = m }) 1 am (take_none c (view s) page), same_record c (view s) TakeAndCopy (page + 1) xs (record { page = page; source = None; dest = Some h; moved = m }) (record { page = page; source = None; dest = g; moved = m }) wl am refl refl), refl)

-- committed, or placed under a fresh page
pub commit_to : (c : Program) (s : After) (t : Past) (a : ℕ) (o : Op) (xs : List Migrating) (step : MoveStep) (v p page : ℕ) (f g : Option Frame) (m : Bool) → Few c s → WellListed xs → Among xs (record { page = page; source = f; dest = g; moved = m }) → is_some g ≡ true → ((u : ℕ) → next_cursor step u ≡ Phase.Moves Commit (u + 1)) → records_left c (view s) Commit page xs ≤ records_left c (view s) step v xs →
    MoveTo c s t a o xs step v (Some (record { page = page; source = f; dest = g; moved = m })) (commit_page s p page f g)
commit_to c s t a o xs step v p page (Some f) (Some g) m fw wl am sm ns b = λ k. (omega (arith, b, item c (view s) Commit xs (record { page = page; source = Some f; dest = Some g; moved = m }) 1 am (commit_some c (view s) page f), same_record c (view s) Commit (page + 1) xs (record { page = page; source = Some f; dest = Some g; moved = true }) (record { page = page; source = Some f; dest = Some g; moved = m }) wl am refl refl), refl)
commit_to c s t a o xs step v p page None (Some g) m fw wl am sm ns b = either P (has_no_frame (s.places.place p page)) _ _ (λ e k. starts e (next_cursor step page) (ns page))
    (λ e k. (omega (arith, b, item c (view s) Commit xs (record { page = page; source = None; dest = Some g; moved = m }) (guard_cost c + 1) am (commit_none c (view s) page)), refl))
  where
    P : Kind → Type 0
    P = MoveTo c s t a o xs step v (Some (record { page = page; source = None; dest = Some g; moved = m }))

    few : told_left (next s a (start_entry s p (one_page page))) p (one_page page) (some_overlap s.sequences p (one_page page)) None ≤ over_ops attaches c
    few = told_few (next s a (start_entry s p (one_page page))) p (one_page page) (some_overlap s.sequences p (one_page page)) None (over_ops attaches c) fw.mirrors

    starts : has_no_frame (s.places.place p page) ≡ true → (w : Phase) → w ≡ Phase.Moves Commit (page + 1) → (left c (next s a (start_entry s p (one_page page))) a o xs (Phase.Guard p (one_page page) (some_overlap s.sequences p (one_page page)) None (Body.Fresh g) ∷ w ∷ []) < records_left c (view s) step v xs + 1) × OnMoves (Phase.Guard p (one_page page) (some_overlap s.sequences p (one_page page)) None (Body.Fresh g) ∷ w ∷ [])
    starts e w i = subst (λ w. (left c (next s a (start_entry s p (one_page page))) a o xs (Phase.Guard p (one_page page) (some_overlap s.sequences p (one_page page)) None (Body.Fresh g) ∷ w ∷ []) < records_left c (view s) step v xs + 1) × OnMoves (Phase.Guard p (one_page page) (some_overlap s.sequences p (one_page page)) None (Body.Fresh g) ∷ w ∷ [])) (sym i) (omega (arith, b, few, if_true (has_no_frame (s.places.place p page)) 2 3 e, item c (view s) Commit xs (record { page = page; source = None; dest = Some g; moved = m }) (guard_cost c + 1) am (commit_none c (view s) page)), refl)
commit_to c s t a o xs step v p page f None m fw wl am sm ns b = absurd (no_test sm)

-- a page of a record whose frame is not back is under way
moving_at_page : (s : After) (t : Past) (a : ℕ) (o : Op) (v : ℕ) (f : Frame) (g : Option Frame) (m p3 p5 : Bool) → HoldsAll s t a (known_of o v (Some f) g m p3 p5 false None) → moving_frame (s.places.place (mirror_proc s.plain (op_mirror o)) v) ≡ Some f
moving_at_page s t a o v f None m p3 p5 h = h.1.0.3
moving_at_page s t a o v f (Some g) false p3 p5 h = h.1.0.3
moving_at_page s t a o v f (Some g) true p3 p5 h = h.1.0.3

not_past : (st : MoveStep) (v : ℕ) → is_past st v Finish v ≡ false
not_past FreezeOthers v = refl
not_past TakeAndCopy v = refl
not_past Commit v = refl
not_past SetOwnTable v = refl
not_past Finish v = none v
  where
    none : (v : ℕ) → nat_lt v v ≡ false
    none v = grind (arith, nat_tests)

pub known_page : (s : After) (t : Past) (a : ℕ) (o : Op) (xs : List Migrating) (st : MoveStep) (page : ℕ) (f : Frame) (g : Option Frame) (m : Bool) → HoldsAll s t a (records o st page None xs) → Among xs (record { page = page; source = Some f; dest = g; moved = m }) → moving_frame (s.places.place (mirror_proc s.plain (op_mirror o)) page) ≡ Some f
known_page s t a o xs st page f g m h am = moving_at_page s t a o page f g m (is_past st page FreezeOthers page) (is_past st page Commit page)
    (subst (λ b. HoldsAll s t a (known_of o page (Some f) g m (is_past st page FreezeOthers page) (is_past st page Commit page) b None)) (not_past st page) (records_each s t a o st page None xs h (record { page = page; source = Some f; dest = g; moved = m }) am).1.1)

-- another mapping frozen
pub others_to : (c : Program) (s : After) (t : Past) (a : ℕ) (o : Op) (xs : List Migrating) (v page : ℕ) (f g : Option Frame) (m : Bool) → Sound c s t → Few c s → WellListed xs → HoldsAll s t a (records o FreezeOthers page None xs) → Among xs (record { page = page; source = f; dest = g; moved = m }) → is_direct s f ≡ true → records_left c (view s) FreezeOthers page xs ≤ records_left c (view s) FreezeOthers v xs →
    MoveTo c s t a o xs FreezeOthers v (Some (record { page = page; source = f; dest = g; moved = m })) (others_of s f)
others_to c s t a o xs v page None g m so fw wl h am d b = absurd (no_test d)
others_to c s t a o xs v page (Some f) g m so fw wl h am d b = by (lowest_direct s.places f) refl d
  where
    P : Kind → Type 0
    P = MoveTo c s t a o xs FreezeOthers v (Some (record { page = page; source = Some f; dest = g; moved = m }))

    by : (x : Option (ℕ × ℕ)) → lowest_direct s.places f ≡ x → is_some x ≡ true → P (elim x [ Some x ↦ start_entry s x.0 (one_page x.1) | None ↦ Kind.Refused Cause.Never ])
    by None e i = absurd (no_test i)
    by (Some x) e i = λ k. (omega (arith, b, few, body, less), refl)
      where
        z : Place
        z = s.places.place x.0 x.1

        passes : is_frame (names_directly z) f ≡ true
        passes = lowest_passes (λ p v. is_frame (names_directly (s.places.place p v)) f) s.places.placed x e

        direct : names_directly z ≡ Some f
        direct = is_frame_from (names_directly z) f passes

        page_same : x.1 ≡ page
        page_same = so.frames.one_page (mirror_proc s.plain (op_mirror o)) page x.0 x.1 f (moving_names (s.places.place (mirror_proc s.plain (op_mirror o)) page) f (known_page s t a o xs FreezeOthers page f g m h am)) (named_directly z f direct)

        y : View
        y = placed_view (view s) x.0 x.1 (Place.Moving f (writable z))

        few : told_left (next s a (start_entry s x.0 (one_page x.1))) x.0 (one_page x.1) (some_overlap s.sequences x.0 (one_page x.1)) None ≤ over_ops attaches c
        few = told_few (next s a (start_entry s x.0 (one_page x.1))) x.0 (one_page x.1) (some_overlap s.sequences x.0 (one_page x.1)) None (over_ops attaches c) fw.mirrors

        body : body_left c (view s) s.locks.frame a o xs x.0 (one_page x.1) z (Body.Freeze f) (Phase.Moves FreezeOthers page ∷ []) ≡ 2 + (records_left c y FreezeOthers page xs + 1)
        body = if_true (is_frame (names_directly z) f) (2 + (records_left c y FreezeOthers page xs + 1)) (1 + (records_left c (view s) FreezeOthers page xs + 1)) passes

        less : records_left c y FreezeOthers page xs + (guard_cost c + 1) ≤ records_left c (view s) FreezeOthers page xs
        less = subst (λ u. records_left c (placed_view (view s) x.0 u (Place.Moving f (writable z))) FreezeOthers page xs + (guard_cost c + 1) ≤ records_left c (view s) FreezeOthers page xs) (sym page_same)
            (records_frozen c (view s) x.0 xs (record { page = page; source = Some f; dest = g; moved = m }) f (writable z) wl am refl (fw.few_processes x.0 x.1 (used_place z f direct)) (subst (λ u. is_frame (names_directly (s.places.place x.0 u)) f ≡ true) page_same passes))

-- the driver's own table
pub set_own_to : (c : Program) (s : After) (t : Past) (a : ℕ) (o : Op) (xs : List Migrating) (step : MoveStep) (v : ℕ) (x : Migrating) (m : ℕ) (w : _) → Among xs x → records_left c (view s) SetOwnTable x.page xs ≤ records_left c (view s) step v xs → MoveTo c s t a o xs step v (Some x) (Kind.Set m x.page x.dest w s.length)
set_own_to c s t a o xs step v x m w am b k = (omega (arith, b, item c (view s) SetOwnTable xs x 1 am (set_any c (view s) x.page x.source)), refl)

-- the pages return
returning : (c : Program) (s : After) (t : Past) (a : ℕ) (o : Op) (xs : List Migrating) (step : MoveStep) (v page : ℕ) (f : Frame) (g : Option Frame) (m : Bool) → HoldsAll s t a (records o Finish page None xs) → Sound c s t → Few c s → Among xs (record { page = page; source = Some f; dest = g; moved = m }) → records_left c (view s) Finish page xs ≤ records_left c (view s) step v xs → (h : Frame) (x : ℕ × ℕ) → lowest_moving s.places f ≡ Some x → Allowed c s t a (Kind.Place x.0 x.1 (place_in h (writable (s.places.place x.0 x.1)))) →
    moving_at (placed_view (view s) x.0 x.1 (place_in h (writable (s.places.place x.0 x.1)))) f (frame_page (placed_view (view s) x.0 x.1 (place_in h (writable (s.places.place x.0 x.1)))) f) + 2 + (records_left c (placed_view (view s) x.0 x.1 (place_in h (writable (s.places.place x.0 x.1)))) Finish (page + 1) xs + 1) < records_left c (view s) step v xs + 1
returning c s t a o xs step v page f g m hk so fw am b h x e k = omega (arith, b, rest, ap (moving_at (view s) f) at_page, fewer_moving c s t a f h (writable (s.places.place x.0 x.1)) x so fw (kept c s t a (Kind.Place x.0 x.1 (place_in h (writable (s.places.place x.0 x.1)))) so k) e, records_returned c (view s) x.0 x.1 (page + 1) (place_in h (writable (s.places.place x.0 x.1))) xs (not_moving h (writable (s.places.place x.0 x.1))))
  where
    rest : records_left c (view s) Finish (page + 1) xs + (moving_at (view s) f page + 2) ≤ records_left c (view s) Finish page xs
    rest = item c (view s) Finish xs (record { page = page; source = Some f; dest = g; moved = m }) (moving_at (view s) f page + 2) am (finish_some c (view s) page f)

    at_page : frame_page (view s) f ≡ page
    at_page = page_is c s t (mirror_proc s.plain (op_mirror o)) page f so (moving_names (s.places.place (mirror_proc s.plain (op_mirror o)) page) f (known_page s t a o xs Finish page f g m hk am))

pub finish_page_to : (c : Program) (s : After) (t : Past) (a : ℕ) (o : Op) (xs : List Migrating) (step : MoveStep) (v page : ℕ) (f g : Option Frame) (m : Bool) → Sound c s t → Few c s → HoldsAll s t a (records o Finish page None xs) → Among xs (record { page = page; source = f; dest = g; moved = m }) → records_left c (view s) Finish page xs ≤ records_left c (view s) step v xs →
    MoveTo c s t a o xs step v (Some (record { page = page; source = f; dest = g; moved = m })) (finish_page s f g m)
finish_page_to c s t a o xs step v page None (Some g) m so fw h am b = λ k. (omega (arith, b, item c (view s) Finish xs (record { page = page; source = None; dest = Some g; moved = m }) 1 am (finish_none c (view s) page)), refl)
finish_page_to c s t a o xs step v page None None m so fw h am b = λ k. (omega (arith, b, item c (view s) Finish xs (record { page = page; source = None; dest = None; moved = m }) 1 am (finish_none c (view s) page)), refl)
finish_page_to c s t a o xs step v page (Some f) (Some g) true so fw h am b = either_option P (lowest_moving s.places f) _ _ (λ e k. (omega (arith, b, rest), refl)) (λ x e k. (returning c s t a o xs step v page f (Some g) true h so fw am b g x e k, refl))
  where
    P : Kind → Type 0
    P = MoveTo c s t a o xs step v (Some (record { page = page; source = Some f; dest = Some g; moved = true }))

    rest : records_left c (view s) Finish (page + 1) xs + (moving_at (view s) f page + 2) ≤ records_left c (view s) Finish page xs
    rest = item c (view s) Finish xs (record { page = page; source = Some f; dest = Some g; moved = true }) (moving_at (view s) f page + 2) am (finish_some c (view s) page f)
finish_page_to c s t a o xs step v page (Some f) None true so fw h am b = either_option P (lowest_moving s.places f) _ _ (λ e. either_option P (lowest_named s.places f) _ _ (λ i k. (omega (arith, b, rest), refl)) (λ x i k. (omega (arith, b, rest), refl))) (λ x e k. (omega (arith, returning c s t a o xs step v page f None true h so fw am b f x e k), refl))
  where
    P : Kind → Type 0
    P = MoveTo c s t a o xs step v (Some (record { page = page; source = Some f; dest = None; moved = true }))

    rest : records_left c (view s) Finish (page + 1) xs + (moving_at (view s) f page + 2) ≤ records_left c (view s) Finish page xs
    rest = item c (view s) Finish xs (record { page = page; source = Some f; dest = None; moved = true }) (moving_at (view s) f page + 2) am (finish_some c (view s) page f)
finish_page_to c s t a o xs step v page (Some f) g false so fw h am b = either_option P (lowest_moving s.places f) _ _ (λ e. either_option P (lowest_named s.places f) _ _ (λ i k. (omega (arith, b, rest), refl)) (λ x i k. (omega (arith, b, rest), refl))) (λ x e k. (omega (arith, returning c s t a o xs step v page f g false h so fw am b f x e k), refl))
  where
    P : Kind → Type 0
    P = MoveTo c s t a o xs step v (Some (record { page = page; source = Some f; dest = g; moved = false }))

    rest : records_left c (view s) Finish (page + 1) xs + (moving_at (view s) f page + 2) ≤ records_left c (view s) Finish page xs
    rest = item c (view s) Finish xs (record { page = page; source = Some f; dest = g; moved = false }) (moving_at (view s) f page + 2) am (finish_some c (view s) page f)
