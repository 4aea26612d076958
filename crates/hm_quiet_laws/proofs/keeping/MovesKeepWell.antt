-- The steps of a migration keep nothing for another's sake.
use Rattle.std.proofs.Common.{◌≡◌, ℕ, ◌+◌, Bool, true, false, is_some, Option, Some, None, List, [], ◌∷◌, refl, sym, subst, arith}
use Rattle.std.specs.Prelude.{count_by}
use Rattle.hm_base.specs.Pages.{one_page}
use Rattle.hm_base.specs.Program.{Program}
use Rattle.hm_base.specs.declared.cause.Cause.{Cause}
use Rattle.hm_base.specs.declared.Frame.{Frame}
use Rattle.hm_base.specs.declared.ops.Op.{Op}
use Rattle.hm_history.specs.declared.phases.MoveStep.{MoveStep}
use Rattle.hm_history.specs.declared.phases.MoveStep.TheVariants.{FreezeOthers, TakeAndCopy, Commit, SetOwnTable, Finish}
use Rattle.hm_history.specs.Memory.Words.{writable}
use Rattle.hm_history.specs.Memory.Plain.{mirror_proc}
use Rattle.hm_history.specs.Memory.Places.{lowest_direct, lowest_moving, lowest_named, lowest_free}
use Rattle.hm_history.specs.Memory.After.{After}
use Rattle.hm_history.specs.Kernel.Operation.{op_mirror}
use Rattle.hm_history.specs.Kernel.Stacks.{after_migration, next_cursor}
use Rattle.hm_history.specs.Kernel.Going.{is_direct, coming, coming_page, recorded_at}
use Rattle.hm_history.specs.Memory.Sequences.{some_overlap}
use Rattle.hm_history.specs.declared.phases.Body.{Body}
use Rattle.hm_history.specs.Kernel.Due.{start_entry, skips, pool_of, others_of, fetch_page, commit_page, finish_page, due_step, due_moves, has_no_frame, right_of}
use Rattle.hm_history.specs.declared.Kind.{Kind}
use Rattle.hm_history.specs.declared.phases.Migrating.{Migrating}
use Rattle.hm_history.specs.declared.phases.Phase.{Phase}
use Rattle.hm_history.specs.declared.phases.Next.TheVariants.{Do}
use Rattle.hm_history.proofs.Tests.{true_false}
use Rattle.hm_laws.specs.Past.{Past}
use Rattle.hm_laws.specs.Sound.{Sound}
use Rattle.hm_laws.specs.Allowed.{next}
use Rattle.hm_laws.specs.Records.{is_past, Among}
use Rattle.hm_laws.specs.Facts.{HoldsAll, facts}
use Rattle.hm_laws.proofs.Migration.Good.{seen_moves}
use Rattle.hm_laws.proofs.Migration.Coming.{Came, came_to}
use Rattle.hm_laws.proofs.Migration.EachStep.{from_first, commits_on}
use Rattle.hm_laws.proofs.Due.Good.{either, either_option}
use Rattle.hm_quiet_laws.specs.Keeping.{keeps_well}
use Rattle.hm_quiet_laws.proofs.migrations.RecordsLeft.{on_page}
use Rattle.hm_quiet_laws.proofs.keeping.FreshPages.{FreshAt, StaysFresh}
use Rattle.hm_quiet_laws.proofs.keeping.FreshStays.{Keeps, FreshCome, come_fresh, later_fresh, record_fresh}
use Rattle.hm_quiet_laws.proofs.measure.Shapes.{no_test}
use Rattle.hm_laws.proofs.Migration.PagePast.{not_before}

abbrev KeepTo : After → ℕ → Op → List Migrating → MoveStep → ℕ → Option Migrating → Kind → Type 0
KeepTo s a o xs step v x k = StaysFresh (next s a k) o (recorded_at x xs k) (after_migration step x k (seen_moves s o step v x k)) × (keeps_well k ≡ true)

on_one : (st : MoveStep) (v u : ℕ) → is_past st v Commit u ≡ true → is_past st (v + 1) Commit u ≡ true
on_one st v u e = on_page st v (v + 1) Commit u (omega arith) e

after_one : (s : After) (o : Op) (xs : List Migrating) (st : MoveStep) (v : ℕ) → FreshAt s o xs st v → FreshAt s o xs st (v + 1)
after_one s o xs st v fr = later_fresh s o xs st v st (v + 1) (λ u e. on_one st v u e) fr

others_keeps : (s : After) (a : ℕ) (o : Op) (xs : List Migrating) (v page : ℕ) (f g : Option Frame) (m : Bool) → is_direct s f ≡ true → FreshAt s o xs FreezeOthers page → KeepTo s a o xs FreezeOthers v (Some (record { page = page; source = f; dest = g; moved = m })) (others_of s f)
others_keeps s a o xs v page None g m d fr = absurd (no_test d)
others_keeps s a o xs v page (Some f) g m d fr = by (lowest_direct s.places f) d
  where
    by : (x : Option (ℕ × ℕ)) → is_some x ≡ true → KeepTo s a o xs FreezeOthers v (Some (record { page = page; source = Some f; dest = g; moved = m })) (elim x [ Some x ↦ start_entry s x.0 (one_page x.1) | None ↦ Kind.Refused Cause.Never ])
    by None i = absurd (no_test i)
    by (Some x) i = (fr, refl)

fetch_keeps : (c : Program) (s : After) (a : ℕ) (o : Op) (xs : List Migrating) (step : MoveStep) (v page : ℕ) (f g : Option Frame) (m : Bool) → Among xs (record { page = page; source = f; dest = g; moved = m }) → FreshAt s o xs TakeAndCopy page → KeepTo s a o xs step v (Some (record { page = page; source = f; dest = g; moved = m })) (fetch_page c s o page)
fetch_keeps c s a o xs step v page f g m am fr = either P (skips c o page) _ _ (λ e. (after_one s o xs TakeAndCopy page fr, refl))
    (λ e. either_option P (lowest_free c s.places (pool_of s o)) _ _ (λ i. (after_one s o xs TakeAndCopy page fr, refl)) (λ h i. taken h f am))
  where
    P : Kind → Type 0
    P = KeepTo s a o xs step v (Some (record { page = page; source = f; dest = g; moved = m }))

    taken : (h : Frame) (f : Option Frame) → Among xs (record { page = page; source = f; dest = g; moved = m }) → KeepTo s a o xs step v (Some (record { page = page; source = f; dest = g; moved = m })) (Kind.Take h)
    taken h (Some i) am = (record_fresh s o xs (record { page = page; source = Some i; dest = Some h; moved = m }) (record { page = page; source = Some i; dest = g; moved = m }) TakeAndCopy (page + 1) refl refl am (after_one s o xs TakeAndCopy page fr), refl)
    taken h None am = (record_fresh s o xs (record { page = page; source = None; dest = Some h; moved = m }) (record { page = page; source = None; dest = g; moved = m }) TakeAndCopy (page + 1) refl refl am (after_one s o xs TakeAndCopy page fr), refl)

commit_keeps : (s : After) (a : ℕ) (o : Op) (xs : List Migrating) (step : MoveStep) (v page : ℕ) (f g : Option Frame) (m : Bool) → Among xs (record { page = page; source = f; dest = g; moved = m }) → is_some g ≡ true → ((u : ℕ) → next_cursor step u ≡ Phase.Moves Commit (u + 1)) → FreshAt s o xs Commit page → KeepTo s a o xs step v (Some (record { page = page; source = f; dest = g; moved = m })) (commit_page s (mirror_proc s.plain (op_mirror o)) page f g)
commit_keeps s a o xs step v page (Some f) (Some g) m am sm ns fr = (record_fresh s o xs (record { page = page; source = Some f; dest = Some g; moved = true }) (record { page = page; source = Some f; dest = Some g; moved = m }) Commit (page + 1) refl refl am (after_one s o xs Commit page fr), refl)
commit_keeps s a o xs step v page None (Some g) m am sm ns fr = either (KeepTo s a o xs step v (Some (record { page = page; source = None; dest = Some g; moved = m }))) (has_no_frame (s.places.place (mirror_proc s.plain (op_mirror o)) page)) _ _
    (λ e. starts e (next_cursor step page) (ns page)) (λ e. absurd (true_false (has_no_frame (s.places.place (mirror_proc s.plain (op_mirror o)) page)) (fr (record { page = page; source = None; dest = Some g; moved = m }) am refl (not_before page)) e))
  where
    starts : has_no_frame (s.places.place (mirror_proc s.plain (op_mirror o)) page) ≡ true → (w : Phase) → w ≡ Phase.Moves Commit (page + 1) → StaysFresh (next s a (start_entry s (mirror_proc s.plain (op_mirror o)) (one_page page))) o xs (Phase.Guard (mirror_proc s.plain (op_mirror o)) (one_page page) (some_overlap s.sequences (mirror_proc s.plain (op_mirror o)) (one_page page)) None (Body.Fresh g) ∷ w ∷ []) × (true ≡ true)
    starts e w i = subst (λ w. StaysFresh (next s a (start_entry s (mirror_proc s.plain (op_mirror o)) (one_page page))) o xs (Phase.Guard (mirror_proc s.plain (op_mirror o)) (one_page page) (some_overlap s.sequences (mirror_proc s.plain (op_mirror o)) (one_page page)) None (Body.Fresh g) ∷ w ∷ []) × (true ≡ true)) (sym i) ((after_one s o xs Commit page fr, e), refl)
commit_keeps s a o xs step v page f None m am sm ns fr = absurd (no_test sm)

-- all fresh pages are past
none_waits : (s : After) (o : Op) (xs : List Migrating) (v : ℕ) → FreshAt s o xs Finish v
none_waits s o xs v w i e p = absurd (no_test (sym p))

set_own_keeps : (s : After) (a : ℕ) (o : Op) (xs : List Migrating) (step : MoveStep) (v : ℕ) (x : Migrating) (m : ℕ) (w : _) → KeepTo s a o xs step v (Some x) (Kind.Set m x.page x.dest w s.length)
set_own_keeps s a o xs step v x m w = ((λ z i e p. absurd (no_test (sym p))), refl)

finish_page_keeps : (s : After) (a : ℕ) (o : Op) (xs : List Migrating) (step : MoveStep) (v page : ℕ) (f g : Option Frame) (m : Bool) → KeepTo s a o xs step v (Some (record { page = page; source = f; dest = g; moved = m })) (finish_page s f g m)
finish_page_keeps s a o xs step v page None (Some g) m = (none_waits s o xs (page + 1), refl)
finish_page_keeps s a o xs step v page None None m = (none_waits s o xs (page + 1), refl)
finish_page_keeps s a o xs step v page (Some f) (Some g) true = either_option (KeepTo s a o xs step v (Some (record { page = page; source = Some f; dest = Some g; moved = true }))) (lowest_moving s.places f) _ _ (λ e. (tt, refl)) (λ x e. (tt, refl))
finish_page_keeps s a o xs step v page (Some f) None true = either_option (KeepTo s a o xs step v (Some (record { page = page; source = Some f; dest = None; moved = true }))) (lowest_moving s.places f) _ _ (λ e. either_option (KeepTo s a o xs step v (Some (record { page = page; source = Some f; dest = None; moved = true }))) (lowest_named s.places f) _ _ (λ i. (none_waits s o xs (page + 1), refl)) (λ x i. (none_waits s o xs (page + 1), refl))) (λ x e. (tt, refl))
finish_page_keeps s a o xs step v page (Some f) g false = either_option (KeepTo s a o xs step v (Some (record { page = page; source = Some f; dest = g; moved = false }))) (lowest_moving s.places f) _ _ (λ e. either_option (KeepTo s a o xs step v (Some (record { page = page; source = Some f; dest = g; moved = false }))) (lowest_named s.places f) _ _ (λ i. (none_waits s o xs (page + 1), refl)) (λ x i. (none_waits s o xs (page + 1), refl))) (λ x e. (tt, refl))

abbrev At : Program → After → ℕ → Op → List Migrating → MoveStep → ℕ → Option (MoveStep × Migrating) → Type 0
At c s a o xs step v r = coming s o xs (Phase.Moves step v) ≡ r → FreshCome s o xs r → KeepTo s a o xs step v (coming_page r) (due_moves c s o xs r)

at_record : (c : Program) (s : After) (t : Past) (a : ℕ) (o : Op) (xs : List Migrating) (step : MoveStep) (v : ℕ) (k : MoveStep) (x : Migrating) → Came s t a o xs k x → At c s a o xs step v (Some (k, x))
at_record c s t a o xs step v FreezeOthers x m e = λ fr. subst (λ n. KeepTo s a o xs n v (Some x) (due_step c s o FreezeOthers x)) (sym (from_first s o xs step v x e)) (others_keeps s a o xs v x.page x.source x.dest x.moved m.concerned fr)
at_record c s t a o xs step v TakeAndCopy x m e = λ fr. fetch_keeps c s a o xs step v x.page x.source x.dest x.moved m.among fr
at_record c s t a o xs step v Commit x m e = λ fr. commit_keeps s a o xs step v x.page x.source x.dest x.moved m.among m.concerned (commits_on s o xs step v x e) fr
at_record c s t a o xs step v SetOwnTable x m e = λ fr. set_own_keeps s a o xs step v x (op_mirror o) (right_of (writable (s.places.place (mirror_proc s.plain (op_mirror o)) x.page)))
at_record c s t a o xs step v Finish x m e = λ fr. finish_page_keeps s a o xs step v x.page x.source x.dest x.moved

pub moves_keeps : (c : Program) (s : After) (t : Past) (a : ℕ) (o : Op) (xs : List Migrating) (step : MoveStep) (v : ℕ) → Sound c s t → HoldsAll s t a (facts o xs (Phase.Moves step v ∷ [])) → FreshAt s o xs step v → Keeps c s a o xs (Phase.Moves step v) [] (Do (due_moves c s o xs (coming s o xs (Phase.Moves step v))))
moves_keeps c s t a o xs step v so h fr = to
  where
    ended : KeepTo s a o xs step v None (Kind.Migrated (count_by (λ x. x.moved) xs))
    ended = (tt, refl)

    to : KeepTo s a o xs step v (coming_page (coming s o xs (Phase.Moves step v))) (due_moves c s o xs (coming s o xs (Phase.Moves step v)))
    to = came_to c s t a o xs step v (At c s a o xs step v) so h.1.1 h.1.0 (record {
      here = λ k x m. at_record c s t a o xs step v k x m;
      ended = λ m e b. ended;
    }) refl (come_fresh s o xs step v fr)
