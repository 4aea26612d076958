-- A page that a migration has moved is there: from the step that finishes on, its place names a frame of the pool that the
-- migration moves to.
use Rattle.std.proofs.Common.{◌≡◌, ℕ, ◌+◌, ◌≤◌, ◌⊎◌, inl, inr, Bool, true, false, ◌&&◌, ◌||◌, nat_lt, nat_le, is_some, if◌then◌else◌, Option, Some, None, List, [], ◌∷◌, ◌++◌, refl, sym, ap, ◌∙◌, subst, arith}
use Rattle.std.specs.Prelude.{⊤}
use Rattle.std.proofs.lemmas.Bool.{cases_eq}
use Rattle.std.proofs.lemmas.Bool.Decides.{nat_tests}
use Rattle.hm_base.specs.Pages.{Pages, one_page}
use Rattle.hm_base.specs.Program.{Program}
use Rattle.hm_base.specs.declared.cause.Cause.{Cause}
use Rattle.hm_base.specs.declared.Frame.{Frame}
use Rattle.hm_base.specs.declared.ops.Op.{Op}
use Rattle.hm_history.specs.declared.phases.MoveStep.{MoveStep}
use Rattle.hm_history.specs.declared.phases.MoveStep.TheVariants.{FreezeOthers, TakeAndCopy, Commit, SetOwnTable, Finish}
use Rattle.hm_history.specs.Memory.Words.{moving_frame, writable}
use Rattle.hm_history.specs.Memory.Plain.{in_window, mirror_proc}
use Rattle.hm_history.specs.Memory.Places.{lowest_direct, lowest_moving, lowest_named, lowest_free}
use Rattle.hm_history.specs.Memory.Sequences.{some_overlap}
use Rattle.hm_history.specs.Memory.Locks.{writer, orphan}
use Rattle.hm_history.specs.Memory.After.{After}
use Rattle.hm_history.specs.Kernel.Operation.{op_mirror, is_migration, is_to_device}
use Rattle.hm_history.specs.Kernel.Stacks.{stack_after, after_migration, next_cursor, told_mirror, is_end, dropping, page_of_entry}
use Rattle.hm_history.specs.Kernel.Going.{seen_at, recorded, recorded_at, coming, coming_page, concerns, is_direct}
use Rattle.hm_history.specs.Kernel.Due.{start_entry, skips, right_of, has_no_frame, others_of, fetch_page, commit_page, finish_page, to_tell, due_guard, due_begin, due_ready, due_finish, settle, in_window_rlock, due_phase, due_step, due_moves, pool_of}
use Rattle.hm_history.specs.declared.Entry.{Entry}
use Rattle.hm_history.specs.declared.KeptAt.{KeptAt}
use Rattle.hm_history.specs.declared.KeptWhy.{KeptWhy}
use Rattle.hm_history.specs.declared.Kind.{Kind}
use Rattle.hm_history.specs.declared.phases.Migrating.{Migrating}
use Rattle.hm_history.specs.declared.phases.Body.{Body}
use Rattle.hm_history.specs.declared.phases.Phase.{Phase}
use Rattle.hm_history.specs.declared.phases.Next.{Next}
use Rattle.hm_history.specs.declared.phases.Next.TheVariants.{Do, Wait}
use Rattle.hm_history.proofs.Tests.{true_false}
use Rattle.hm_laws.specs.Past.{Past}
use Rattle.hm_laws.specs.Sound.{Sound}
use Rattle.hm_laws.specs.Allowed.{next}
use Rattle.hm_laws.specs.Records.{is_past, same_step, Among, WellListed, rising_pages}
use Rattle.hm_laws.specs.Facts.{HoldsAll, facts, facts_past, known_of, records}
use Rattle.hm_laws.proofs.Due.Good.{either, either_option}
use Rattle.hm_laws.proofs.Migration.Good.{seen_moves}
use Rattle.hm_laws.proofs.Migration.Coming.{Came, came_to, find_none, find_before}
use Rattle.hm_laws.proofs.Migration.EachStep.{from_first, commits_on}
use Rattle.hm_laws.proofs.Migration.PagePast.{not_before}
use Rattle.hm_laws.proofs.Migration.Records.{one_of_page, records_each, step_says}
use Rattle.hm_quiet_laws.specs.Keeping.{IsThere}
use Rattle.hm_quiet_laws.proofs.measure.Shapes.{on_moves, no_test}
use Rattle.hm_quiet_laws.proofs.alone.EndsWell.{Onward}
use Rattle.hm_quiet_laws.proofs.migrations.RecordsLeft.{come_by}
use Rattle.hm_quiet_laws.proofs.keeping.FreshPages.{StaysFresh}
use Rattle.hm_quiet_laws.proofs.keeping.PagesReturn.{Back, page_after, all_back}
use Rattle.hm_quiet_laws.proofs.keeping.SelectedPages.{within_says, over_says, none_at, past_other}

abbrev pub Arrived : After → Op → List Migrating → MoveStep → ℕ → Type 0
Arrived s o xs step v = (x : Migrating) → Among xs x → x.moved ≡ true → is_past step v Finish x.page ≡ true → IsThere s o x.page

-- while the pages of a frame return, one of them may still be under way
abbrev pub Returns : After → Op → List Migrating → MoveStep → ℕ → Frame → Option Frame → Type 0
Returns s o xs step v f to = (x : Migrating) → Among xs x → x.moved ≡ true → is_past step v Finish x.page ≡ true → IsThere s o x.page ⊎ Back s o f to x.page

abbrev pub Arrived_under : After → Op → List Migrating → List Phase → Type 0
Arrived_under s o xs (Phase.Moves step v ∷ []) = Arrived s o xs step v
Arrived_under s o xs st = Unit {0}

abbrev pub Returns_under : After → Op → List Migrating → Frame → Option Frame → List Phase → Type 0
Returns_under s o xs f to (Phase.Moves step v ∷ []) = Returns s o xs step v f to
Returns_under s o xs f to st = Unit {0}

abbrev pub Arrives : Op → After → List Migrating → List Phase → List Entry → Type 0
Arrives o s xs (Phase.Moves step v ∷ below) done = Arrived s o xs step v
Arrives o s xs (Phase.Guard q r met told body ∷ below) done = Arrived_under s o xs below
Arrives o s xs (Phase.Copy f g k ∷ below) done = Arrived_under s o xs below
Arrives o s xs (Phase.Finish f to ∷ below) done = Returns_under s o xs f to below
Arrives o s xs (Phase.Settle g ∷ below) done = Arrived_under s o xs below
Arrives o s xs st done = Unit {0}

-- at the end
abbrev pub AllThere : Op → After → List Migrating → List Entry → Kind → Type 0
AllThere o s xs done k = (x : Migrating) → Among xs x → x.moved ≡ true → IsThere s o x.page

abbrev pub ArrivesOn : Op → After → ℕ → List Migrating → List Entry → Kind → List Migrating → List Phase → Type 0
ArrivesOn o s a xs done k ys st = Onward (Arrives o) (AllThere o) s a xs done k ys st

abbrev pub ArrivesNext : Program → After → ℕ → Op → List Migrating → Phase → List Phase → List Entry → Next → Type 0
ArrivesNext c s a o xs top below done (Do k) = ArrivesOn o s a xs done k (recorded top (seen_at s o xs top k).page xs k) (stack_after o (top ∷ below) k (seen_at s o xs top k))
ArrivesNext c s a o xs top below done (Wait y) = ⊤

-- before the last step nothing is said
at_early : (s : After) (o : Op) (xs : List Migrating) (step : MoveStep) (v : ℕ) → same_step step Finish ≡ false → Arrived s o xs step v
at_early s o xs step v e x i m p = absurd (early step e p)
  where
    early : (step : MoveStep) → same_step step Finish ≡ false → is_past step v Finish x.page ≡ true → ⊥
    early FreezeOthers e p = no_test p
    early TakeAndCopy e p = no_test p
    early Commit e p = no_test p
    early SetOwnTable e p = no_test p
    early Finish e p = true_false true refl e

-- the record to which it comes: one that is passed has not moved
abbrev ArrivedCome : After → Op → List Migrating → Option (MoveStep × Migrating) → Type 0
ArrivedCome s o xs None = (x : Migrating) → Among xs x → x.moved ≡ true → IsThere s o x.page
ArrivedCome s o xs (Some at) = Arrived s o xs at.0 at.1.page

or_true : (b d : Bool) → d ≡ true → (b || d) ≡ false → ⊥
or_true true d e f = cc
or_true false d e f = cc

later_arrived : (s : After) (o : Op) (xs : List Migrating) (step : MoveStep) (from : ℕ) (j : MoveStep) (k : ℕ) →
    ((y : Migrating) → Among xs y → is_past step from Finish y.page ≡ false → is_past j k Finish y.page ≡ true → (step ≡ Finish) × (concerns s o step y ≡ false)) → Arrived s o xs step from → Arrived s o xs j k
later_arrived s o xs step from j k h ar y i m p = by (is_past step from Finish y.page) refl
  where
    by : (b : Bool) → is_past step from Finish y.page ≡ b → IsThere s o y.page
    by true e = ar y i m e
    by false e = let z = h y i e p in absurd (or_true (is_some y.source) y.moved m (ap (λ n. concerns s o n y) (sym z.0) ∙ z.1))

come_arrived : (s : After) (o : Op) (xs : List Migrating) (step : MoveStep) (from : ℕ) → rising_pages xs ≡ true → Arrived s o xs step from → ArrivedCome s o xs (coming s o xs (Phase.Moves step from))
come_arrived s o xs step from r ar = come_by s o xs (Arrived s o xs) (ArrivedCome s o xs) step from (record {
  here = λ st n x h e. later_arrived s o xs st n st x.page (λ y i f t. let w = within_says st n x.page Finish y.page f t in (w.0, none_at s o st n y w.1 (find_before (λ x. nat_le n x.page && concerns s o st x) xs x y r e i w.2))) h;
  over = λ st after n nx h e. later_arrived s o xs st n after 0 (λ y i f t. let w = over_says st after n Finish y.page nx f t in (w.0, none_at s o st n y w.1 (find_none (λ x. nat_le n x.page && concerns s o st x) xs y e i))) h;
  ended = λ n h e y i m. all n h y (λ l. none_at s o Finish n y l (find_none (λ x. nat_le n x.page && concerns s o Finish x) xs y e i)) i m;
}) ar
  where
    all : (n : ℕ) → Arrived s o xs Finish n → (y : Migrating) → (n ≤ y.page → (is_some y.source || y.moved) ≡ false) → Among xs y → y.moved ≡ true → IsThere s o y.page
    all n h y none i m = by (nat_lt y.page n) refl
      where
        le : (n v : ℕ) → nat_lt v n ≡ false → n ≤ v
        le n v e = grind (arith, nat_tests)

        by : (b : Bool) → nat_lt y.page n ≡ b → IsThere s o y.page
        by true e = h y i m e
        by false e = absurd (or_true (is_some y.source) y.moved m (none (le n y.page e)))

-- what is known of a record that moved, at the step that finishes it
known_here : (s : After) (t : Past) (a : ℕ) (o : Op) (xs : List Migrating) (page : ℕ) (f g : Option Frame) (m : Bool) → HoldsAll s t a (records o Finish page None xs) → Among xs (record { page = page; source = f; dest = g; moved = m }) → HoldsAll s t a (facts_past o true true true false None (record { page = page; source = f; dest = g; moved = m }))
known_here s t a o xs page f g m h am = subst (λ b. HoldsAll s t a (facts_past o true true true b None (record { page = page; source = f; dest = g; moved = m }))) (not_before page) (records_each s t a o Finish page None xs h (record { page = page; source = f; dest = g; moved = m }) am)

has_dest : (s : After) (t : Past) (a : ℕ) (o : Op) (xs : List Migrating) (page : ℕ) (f : Option Frame) → HoldsAll s t a (records o Finish page None xs) → Among xs (record { page = page; source = f; dest = None; moved = true }) → ⊥
has_dest s t a o xs page f h am = by (is_some f || is_to_device o) (known_here s t a o xs page f None true h am).0
  where
    by : (b : Bool) → (b && false) ≡ true → ⊥
    by true e = no_test e
    by false e = no_test e

-- the step that finishes a record
abbrev ArriveTo : After → ℕ → Op → List Migrating → MoveStep → ℕ → List Entry → Option Migrating → Kind → Type 0
ArriveTo s a o xs step v done x k = ArrivesOn o s a xs done k (recorded_at x xs k) (after_migration step x k (seen_moves s o step v x k))

finishes : (c : Program) (s : After) (t : Past) (a : ℕ) (o : Op) (xs : List Migrating) (page : ℕ) (f g : Option Frame) (m : Bool) → WellListed xs → Among xs (record { page = page; source = f; dest = g; moved = m }) → Arrived s o xs Finish page → (X : ℕ → Type 0) → ((u : ℕ) → IsThere s o u → X u) → (m ≡ true → X page) → (y : Migrating) → Among xs y → y.moved ≡ true → is_past Finish (page + 1) Finish y.page ≡ true → X y.page
finishes c s t a o xs page f g m wl am ar X there here y i mv p = by (cases_eq y.page page)
  where
    by : (y.page ≡ page) ⊎ (y.page ≡ page → ⊥) → X y.page
    by (inl e) = subst X (sym e) (here (sym (ap (λ (z : Migrating). z.moved) (one_of_page xs y (record { page = page; source = f; dest = g; moved = m }) wl i am e)) ∙ mv))
    by (inr ne) = there y.page (ar y i mv (past_other Finish page Finish y.page ne p))

finish_page_arrives : (c : Program) (s : After) (t : Past) (a : ℕ) (o : Op) (xs : List Migrating) (step : MoveStep) (v page : ℕ) (f g : Option Frame) (m : Bool) (done : List Entry) → Sound c s t → WellListed xs → HoldsAll s t a (records o Finish page None xs) → Among xs (record { page = page; source = f; dest = g; moved = m }) → Arrived s o xs Finish page → ArriveTo s a o xs step v done (Some (record { page = page; source = f; dest = g; moved = m })) (finish_page s f g m)
finish_page_arrives c s t a o xs step v page None (Some g) m done so wl h am ar = finishes c s t a o xs page None (Some g) m wl am ar (IsThere s o) (λ u th. th) (λ e. there m am e)
  where
    there : (m : Bool) → Among xs (record { page = page; source = None; dest = Some g; moved = m }) → m ≡ true → IsThere s o page
    there true am e = let k = (known_here s t a o xs page None (Some g) true h am).1.1 in (g, k.1.0.4, k.1.1.0.1)
    there false am e = absurd (no_test e)
finish_page_arrives c s t a o xs step v page None None m done so wl h am ar = finishes c s t a o xs page None None m wl am ar (IsThere s o) (λ u th. th) (λ e. none m am e)
  where
    none : (m : Bool) → Among xs (record { page = page; source = None; dest = None; moved = m }) → m ≡ true → IsThere s o page
    none true am e = absurd (has_dest s t a o xs page None h am)
    none false am e = absurd (no_test e)
finish_page_arrives c s t a o xs step v page (Some f) (Some g) true done so wl h am ar = either_option (ArriveTo s a o xs step v done (Some (record { page = page; source = Some f; dest = Some g; moved = true }))) (lowest_moving s.places f) _ _
    (λ e. λ y i mv p. all_back c s t o f (Some g) y.page so e (each y i mv p))
    (λ x e. λ y i mv p. page_after s a o f (Some g) g x y.page (λ k j. same k j) e (each y i mv p))
  where
    known : HoldsAll s t a (known_of o page (Some f) (Some g) true true true false None)
    known = (known_here s t a o xs page (Some f) (Some g) true h am).1.1

    moving : moving_frame (s.places.place (mirror_proc s.plain (op_mirror o)) page) ≡ Some f
    moving = known.1.0.3

    each : (y : Migrating) → Among xs y → y.moved ≡ true → is_past Finish (page + 1) Finish y.page ≡ true → IsThere s o y.page ⊎ Back s o f (Some g) y.page
    each = finishes c s t a o xs page (Some f) (Some g) true wl am ar (λ u. IsThere s o u ⊎ Back s o f (Some g) u) (λ u th. inl th) (λ j. inr (known.1.1.0.1, moving))

    same : (k : Frame) → ◌≡◌ {A = Option Frame} (Some g) (Some k) → g ≡ k
    same k j = cc
finish_page_arrives c s t a o xs step v page (Some f) None true done so wl h am ar = absurd (has_dest s t a o xs page (Some f) h am)
finish_page_arrives c s t a o xs step v page (Some f) g false done so wl h am ar = either_option (ArriveTo s a o xs step v done (Some (record { page = page; source = Some f; dest = g; moved = false }))) (lowest_moving s.places f) _ _
    (λ e. either_option (ArriveTo s a o xs step v done (Some (record { page = page; source = Some f; dest = g; moved = false }))) (lowest_named s.places f) _ _ (λ i. stays) (λ x i. stays))
    (λ x e. λ y i mv p. page_after s a o f None f x y.page (λ k j. cc) e (inl (stays y i mv p)))
  where
    stays : Arrived s o xs Finish (page + 1)
    stays = finishes c s t a o xs page (Some f) g false wl am ar (IsThere s o) (λ u th. th) (λ e. absurd (no_test e))

-- a migration between its guards: of an earlier step nothing is said
others_arrives : (s : After) (a : ℕ) (o : Op) (xs : List Migrating) (v page : ℕ) (f g : Option Frame) (m : Bool) (done : List Entry) → is_direct s f ≡ true → ArriveTo s a o xs FreezeOthers v done (Some (record { page = page; source = f; dest = g; moved = m })) (others_of s f)
others_arrives s a o xs v page None g m done d = absurd (no_test d)
others_arrives s a o xs v page (Some f) g m done d = by (lowest_direct s.places f) d
  where
    by : (x : Option (ℕ × ℕ)) → is_some x ≡ true → ArriveTo s a o xs FreezeOthers v done (Some (record { page = page; source = Some f; dest = g; moved = m })) (elim x [ Some x ↦ start_entry s x.0 (one_page x.1) | None ↦ Kind.Refused Cause.Never ])
    by None i = absurd (no_test i)
    by (Some x) i = at_early (next s a (start_entry s x.0 (one_page x.1))) o xs FreezeOthers page refl

fetch_arrives : (c : Program) (s : After) (a : ℕ) (o : Op) (xs : List Migrating) (step : MoveStep) (v page : ℕ) (f g : Option Frame) (m : Bool) (done : List Entry) → ArriveTo s a o xs step v done (Some (record { page = page; source = f; dest = g; moved = m })) (fetch_page c s o page)
fetch_arrives c s a o xs step v page f g m done = either P (skips c o page) _ _ (λ e. at_early (next s a (Kind.Kept (KeptAt.Page page) KeptWhy.Skipped)) o xs TakeAndCopy (page + 1) refl) (λ e. either_option P (lowest_free c s.places (pool_of s o)) _ _ (λ i. at_early (next s a (Kind.Kept (KeptAt.Page page) KeptWhy.NoFrame)) o xs TakeAndCopy (page + 1) refl) (λ h i. taken h f))
  where
    P : Kind → Type 0
    P = ArriveTo s a o xs step v done (Some (record { page = page; source = f; dest = g; moved = m }))

    taken : (h : Frame) (f : Option Frame) → ArriveTo s a o xs step v done (Some (record { page = page; source = f; dest = g; moved = m })) (Kind.Take h)
    taken h (Some i) = at_early (next s a (Kind.Take h)) o (recorded_at (Some (record { page = page; source = Some i; dest = g; moved = m })) xs (Kind.Take h)) TakeAndCopy (page + 1) refl
    taken h None = at_early (next s a (Kind.Take h)) o (recorded_at (Some (record { page = page; source = None; dest = g; moved = m })) xs (Kind.Take h)) TakeAndCopy (page + 1) refl

commit_arrives : (s : After) (a : ℕ) (o : Op) (xs : List Migrating) (step : MoveStep) (v page : ℕ) (f g : Option Frame) (m : Bool) (done : List Entry) → is_some g ≡ true → ((u : ℕ) → next_cursor step u ≡ Phase.Moves Commit (u + 1)) → ArriveTo s a o xs step v done (Some (record { page = page; source = f; dest = g; moved = m })) (commit_page s (mirror_proc s.plain (op_mirror o)) page f g)
commit_arrives s a o xs step v page (Some f) (Some g) m done sm ns = at_early (next s a (Kind.Committed f g)) o (recorded_at (Some (record { page = page; source = Some f; dest = Some g; moved = m })) xs (Kind.Committed f g)) Commit (page + 1) refl
commit_arrives s a o xs step v page None (Some g) m done sm ns = either (ArriveTo s a o xs step v done (Some (record { page = page; source = None; dest = Some g; moved = m }))) (has_no_frame (s.places.place p page)) _ _ (λ e. starts (next_cursor step page) (ns page)) (λ e. lost)
  where
    p : ℕ
    p = mirror_proc s.plain (op_mirror o)

    starts : (w : Phase) → w ≡ Phase.Moves Commit (page + 1) → Arrives o (next s a (start_entry s p (one_page page))) xs (Phase.Guard p (one_page page) (some_overlap s.sequences p (one_page page)) None (Body.Fresh g) ∷ w ∷ []) (done ++ record { actor = a; kind = start_entry s p (one_page page) } ∷ [])
    starts w i = subst (λ w. Arrives o (next s a (start_entry s p (one_page page))) xs (Phase.Guard p (one_page page) (some_overlap s.sequences p (one_page page)) None (Body.Fresh g) ∷ w ∷ []) (done ++ record { actor = a; kind = start_entry s p (one_page page) } ∷ [])) (sym i) (at_early (next s a (start_entry s p (one_page page))) o xs Commit (page + 1) refl)

    lost : ArriveTo s a o xs step v done (Some (record { page = page; source = None; dest = Some g; moved = m })) (Kind.Kept (KeptAt.Page page) KeptWhy.Lost)
    lost = tt
commit_arrives s a o xs step v page f None m done sm ns = absurd (no_test sm)

set_own_arrives : (s : After) (a : ℕ) (o : Op) (xs : List Migrating) (step : MoveStep) (v : ℕ) (x : Migrating) (m : ℕ) (w : _) (done : List Entry) → ArriveTo s a o xs step v done (Some x) (Kind.Set m x.page x.dest w s.length)
set_own_arrives s a o xs step v x m w done = at_early (next s a (Kind.Set m x.page x.dest w s.length)) o xs SetOwnTable (x.page + 1) refl

abbrev At : Program → After → ℕ → Op → List Migrating → MoveStep → ℕ → List Entry → Option (MoveStep × Migrating) → Type 0
At c s a o xs step v done r = coming s o xs (Phase.Moves step v) ≡ r → ArrivedCome s o xs r → ArriveTo s a o xs step v done (coming_page r) (due_moves c s o xs r)

at_record : (c : Program) (s : After) (t : Past) (a : ℕ) (o : Op) (xs : List Migrating) (step : MoveStep) (v : ℕ) (done : List Entry) (k : MoveStep) (x : Migrating) → Sound c s t → Came s t a o xs k x → At c s a o xs step v done (Some (k, x))
at_record c s t a o xs step v done FreezeOthers x so m e = λ ar. subst (λ n. ArriveTo s a o xs n v done (Some x) (due_step c s o FreezeOthers x)) (sym (from_first s o xs step v x e)) (others_arrives s a o xs v x.page x.source x.dest x.moved done m.concerned)
at_record c s t a o xs step v done TakeAndCopy x so m e = λ ar. fetch_arrives c s a o xs step v x.page x.source x.dest x.moved done
at_record c s t a o xs step v done Commit x so m e = λ ar. commit_arrives s a o xs step v x.page x.source x.dest x.moved done m.concerned (commits_on s o xs step v x e)
at_record c s t a o xs step v done SetOwnTable x so m e = λ ar. set_own_arrives s a o xs step v x (op_mirror o) (right_of (writable (s.places.place (mirror_proc s.plain (op_mirror o)) x.page))) done
at_record c s t a o xs step v done Finish x so m e = λ ar. finish_page_arrives c s t a o xs step v x.page x.source x.dest x.moved done so m.knows.1.0 m.knows.1.1.1 m.among ar

moves_arrive : (c : Program) (s : After) (t : Past) (a : ℕ) (o : Op) (xs : List Migrating) (step : MoveStep) (v : ℕ) (done : List Entry) → Sound c s t → HoldsAll s t a (facts o xs (Phase.Moves step v ∷ [])) → Arrived s o xs step v → ArriveTo s a o xs step v done (coming_page (coming s o xs (Phase.Moves step v))) (due_moves c s o xs (coming s o xs (Phase.Moves step v)))
moves_arrive c s t a o xs step v done so h ar = came_to c s t a o xs step v (At c s a o xs step v done) so h.1.1 h.1.0 (record {
  here = λ k x m. at_record c s t a o xs step v done k x so m;
  ended = λ m e g. g;
}) refl (come_arrived s o xs step v h.1.1.1.0.rising ar)

-- guards: those of an early step, whatever their entry, and one that has placed its page
early_guard : (s : After) (a : ℕ) (o : Op) (xs ys : List Migrating) (p : ℕ) (r : Pages) (met : Bool) (told : Option ℕ) (old new : Body) (step : MoveStep) (v : ℕ) (done : List Entry) (k : Kind) (last : List Phase) (x : Option ℕ) (b : Bool) (z : Option Frame) → same_step step Finish ≡ false → ArrivesOn o s a xs done k ys last →
    ArrivesOn o s a xs done k ys (elim x as (λ w. List Phase) [ Some m ↦ Phase.Guard p r met (Some m) old ∷ Phase.Moves step v ∷ [] | None ↦ if b then last else dropping z (Phase.Guard p r met told new ∷ Phase.Moves step v ∷ []) ])
early_guard s a o xs ys p r met told old new step v done k last (Some m) b z e h = at_early (next s a k) o ys step v e
early_guard s a o xs ys p r met told old new step v done k last None true z e h = h
early_guard s a o xs ys p r met told old new step v done k last None false None e h = at_early (next s a k) o ys step v e
early_guard s a o xs ys p r met told old new step v done k last None false (Some f) e h = tt

not_last : (step k : MoveStep) → same_step step k ≡ true → same_step k Finish ≡ false → same_step step Finish ≡ false
not_last step k e n = ap (λ j. same_step j Finish) (step_says step k e) ∙ n

guard_arrives : (c : Program) (s : After) (t : Past) (a : ℕ) (o : Op) (xs : List Migrating) (p : ℕ) (r : Pages) (met : Bool) (told : Option ℕ) (body : Body) (below : List Phase) (done : List Entry) → HoldsAll s t a (facts o xs (Phase.Guard p r met told body ∷ below)) → on_moves (Phase.Guard p r met told body ∷ below) ≡ true → Arrives o s xs (Phase.Guard p r met told body ∷ below) done →
    ArrivesNext c s a o xs (Phase.Guard p r met told body) below done (Do (due_guard s a o p r met told body))
guard_arrives c s t a o xs p r met told (Body.Select n) (Phase.Moves step v ∷ []) done h e ar = on (due_guard s a o p r met told (Body.Select n)) (not_last step FreezeOthers h.1.1.1.0 refl)
  where
    on : (k : Kind) → same_step step Finish ≡ false → ArrivesNext c s a o xs (Phase.Guard p r met told (Body.Select n)) (Phase.Moves step v ∷ []) done (Do k)
    on k l = early_guard s a o xs (recorded (Phase.Guard p r met told (Body.Select n)) None xs k) p r met told (Body.Select n) (Body.Select (page_of_entry k + 1)) step v done k (Phase.Moves step v ∷ []) (told_mirror k) (is_end k) (orphan s.locks s.places k) l (at_early (next s a k) o (recorded (Phase.Guard p r met told (Body.Select n)) None xs k) step v l)
guard_arrives c s t a o xs p r met told (Body.Freeze f) (Phase.Moves step v ∷ []) done h e ar = on (due_guard s a o p r met told (Body.Freeze f)) (not_last step FreezeOthers h.1.1.1.0 refl)
  where
    on : (k : Kind) → same_step step Finish ≡ false → ArrivesNext c s a o xs (Phase.Guard p r met told (Body.Freeze f)) (Phase.Moves step v ∷ []) done (Do k)
    on k l = early_guard s a o xs xs p r met told (Body.Freeze f) Body.Nothing step v done k (Phase.Moves step v ∷ []) (told_mirror k) (is_end k) (orphan s.locks s.places k) l (at_early (next s a k) o xs step v l)
guard_arrives c s t a o xs p r met told (Body.Fresh g) (Phase.Moves step v ∷ []) done h e ar = on (due_guard s a o p r met told (Body.Fresh g)) (not_last step Commit h.1.1.1.0 refl)
  where
    on : (k : Kind) → same_step step Finish ≡ false → ArrivesNext c s a o xs (Phase.Guard p r met told (Body.Fresh g)) (Phase.Moves step v ∷ []) done (Do k)
    on k l = early_guard s a o xs (recorded (Phase.Guard p r met told (Body.Fresh g)) None xs k) p r met told (Body.Fresh g) Body.Nothing step v done k (Phase.Lost r.first g ∷ Phase.Moves step v ∷ []) (told_mirror k) (is_end k) (orphan s.locks s.places k) l tt
guard_arrives c s t a o xs p r met told Body.Nothing (Phase.Moves step v ∷ []) done h e ar = either_option (λ k. ArrivesNext c s a o xs (Phase.Guard p r met told Body.Nothing) (Phase.Moves step v ∷ []) done (Do k)) (to_tell s p r met told) _ _ (λ i. ar) (λ m i. ar)
guard_arrives c s t a o xs p r met told body below done h e ar = absurd (no_test e)

copy_arrives : (c : Program) (s : After) (a : ℕ) (o : Op) (xs : List Migrating) (f g : Frame) (k : ℕ) (below : List Phase) (done : List Entry) → on_moves (Phase.Copy f g k ∷ below) ≡ true → Arrives o s xs (Phase.Copy f g k ∷ below) done → ArrivesNext c s a o xs (Phase.Copy f g k) below done (Do (Kind.Copied f g (Some k)))
copy_arrives c s a o xs f g k (Phase.Moves step v ∷ []) done e ar = by (nat_lt k 7)
  where
    by : (b : Bool) → ArrivesOn o s a xs done (Kind.Copied f g (Some k)) xs (if b then Phase.Copy f g (k + 1) ∷ Phase.Moves step v ∷ [] else (Phase.Moves step v ∷ []))
    by true = ar
    by false = ar
copy_arrives c s a o xs f g k below done e ar = absurd (no_test e)

settle_arrives : (c : Program) (s : After) (a : ℕ) (o : Op) (xs : List Migrating) (g : Frame) (below : List Phase) (done : List Entry) → on_moves (Phase.Settle g ∷ below) ≡ true → Arrives o s xs (Phase.Settle g ∷ below) done → ArrivesNext c s a o xs (Phase.Settle g) below done (Do (settle s g))
settle_arrives c s a o xs g (Phase.Moves step v ∷ []) done e ar = either_option (λ k. ArrivesNext c s a o xs (Phase.Settle g) (Phase.Moves step v ∷ []) done (Do k)) (lowest_named s.places g) _ _ (λ i. ar) (λ x i. ar)
settle_arrives c s a o xs g below done e ar = absurd (no_test e)

finish_arrives : (c : Program) (s : After) (t : Past) (a : ℕ) (o : Op) (xs : List Migrating) (f : Frame) (to : Option Frame) (below : List Phase) (done : List Entry) → Sound c s t → on_moves (Phase.Finish f to ∷ below) ≡ true → Arrives o s xs (Phase.Finish f to ∷ below) done → ArrivesNext c s a o xs (Phase.Finish f to) below done (Do (due_finish s f to))
finish_arrives c s t a o xs f (Some g) (Phase.Moves step v ∷ []) done so e re = either_option (λ k. ArrivesNext c s a o xs (Phase.Finish f (Some g)) (Phase.Moves step v ∷ []) done (Do k)) (lowest_moving s.places f) _ _
    (λ i y j m p. all_back c s t o f (Some g) y.page so i (re y j m p))
    (λ x i y j m p. page_after s a o f (Some g) g x y.page (λ k l. same k l) i (re y j m p))
  where
    same : (k : Frame) → ◌≡◌ {A = Option Frame} (Some g) (Some k) → g ≡ k
    same k l = cc
finish_arrives c s t a o xs f None (Phase.Moves step v ∷ []) done so e re = either_option (λ k. ArrivesNext c s a o xs (Phase.Finish f None) (Phase.Moves step v ∷ []) done (Do k)) (lowest_moving s.places f) _ _
    (λ i. either_option (λ k. ArrivesNext c s a o xs (Phase.Finish f None) (Phase.Moves step v ∷ []) done (Do k)) (lowest_named s.places f) _ _ (λ n y j m p. all_back c s t o f None y.page so i (re y j m p)) (λ x n y j m p. all_back c s t o f None y.page so i (re y j m p)))
    (λ x i y j m p. page_after s a o f None f x y.page (λ k l. cc) i (re y j m p))
finish_arrives c s t a o xs f to below done so e re = absurd (no_test e)

-- the first entries
begin_at : (c : Program) (s : After) (a : ℕ) (o : Op) (done : List Entry) (m : ℕ) (r : Pages) → ArrivesNext c s a o [] Phase.Begin [] done (Do (Kind.Rlock (mirror_proc s.plain m))) → ArrivesNext c s a o [] Phase.Begin [] done (in_window_rlock s m r)
begin_at c s a o done m r h = either (ArrivesNext c s a o [] Phase.Begin [] done) (in_window s.plain m r) _ _ (λ e. either_option (ArrivesNext c s a o [] Phase.Begin [] done) (writer s.locks (mirror_proc s.plain m)) _ _ (λ w. h) (λ b w. tt)) (λ e x i. absurd i)

begin_arrives : (c : Program) (s : After) (t : Past) (a : ℕ) (o : Op) (xs : List Migrating) (done : List Entry) → is_migration o ≡ true → HoldsAll s t a (facts o xs (Phase.Begin ∷ [])) → ArrivesNext c s a o xs Phase.Begin [] done (due_begin s a o)
begin_arrives c s t a (Op.ToDevice m r) [] done i h = begin_at c s a (Op.ToDevice m r) done m r tt
begin_arrives c s t a (Op.ToSystem m r) [] done i h = begin_at c s a (Op.ToSystem m r) done m r tt
begin_arrives c s t a (Op.ToDevice m r) (x ∷ xs) done i h = absurd (no_test h.0)
begin_arrives c s t a (Op.ToSystem m r) (x ∷ xs) done i h = absurd (no_test h.0)
begin_arrives c s t a o xs done i h = absurd (no_test i)

ready_arrives : (c : Program) (s : After) (a : ℕ) (o : Op) (xs : List Migrating) (done : List Entry) → is_migration o ≡ true → ArrivesNext c s a o xs Phase.Ready [] done (Do (due_ready s o))
ready_arrives c s a (Op.ToDevice m r) xs done i = at_early (next s a (start_entry s (mirror_proc s.plain m) r)) (Op.ToDevice m r) xs FreezeOthers r.first refl
ready_arrives c s a (Op.ToSystem m r) xs done i = at_early (next s a (start_entry s (mirror_proc s.plain m) r)) (Op.ToSystem m r) xs FreezeOthers r.first refl
ready_arrives c s a o xs done i = absurd (no_test i)

pub all_arrive : (c : Program) (o : Op) → is_migration o ≡ true → (s : After) (t : Past) (a : ℕ) (xs : List Migrating) (top : Phase) (below : List Phase) (done : List Entry) → Sound c s t → HoldsAll s t a (facts o xs (top ∷ below)) → on_moves (top ∷ below) ≡ true → StaysFresh s o xs (top ∷ below) → Arrives o s xs (top ∷ below) done → ArrivesNext c s a o xs top below done (due_phase c s a o xs top)
all_arrive c o i s t a xs Phase.Begin [] done so h e w ar = begin_arrives c s t a o xs done i h
all_arrive c o i s t a xs Phase.Begin (y ∷ ys) done so h e w ar = absurd h.0
all_arrive c o i s t a xs Phase.Ready [] done so h e w ar = ready_arrives c s a o xs done i
all_arrive c o i s t a xs Phase.Ready (y ∷ ys) done so h e w ar = absurd h.0
all_arrive c o i s t a xs (Phase.Moves step v) [] done so h e w ar = moves_arrive c s t a o xs step v done so h ar
all_arrive c o i s t a xs (Phase.Moves step v) (y ∷ ys) done so h e w ar = absurd h.0
all_arrive c o i s t a xs (Phase.Guard p r met told body) below done so h e w ar = guard_arrives c s t a o xs p r met told body below done h e ar
all_arrive c o i s t a xs (Phase.Copy k l n) below done so h e w ar = copy_arrives c s a o xs k l n below done e ar
all_arrive c o i s t a xs (Phase.Finish k to) below done so h e w ar = finish_arrives c s t a o xs k to below done so e ar
all_arrive c o i s t a xs (Phase.Settle k) below done so h e w ar = settle_arrives c s a o xs k below done e ar
all_arrive c o i s t a xs (Phase.Lost u k) below done so h e w ar = absurd w
all_arrive c o i s t a xs (Phase.Drop k) below done so h e w ar = absurd w
all_arrive c o i s t a xs top below done so h e w ar = absurd (no_test e)
