-- The steps of a migration move each page that it selected, or leave it for one of two reasons.
use Rattle.std.proofs.Common.{◌≡◌, ℕ, ◌+◌, ◌⊎◌, inl, inr, Bool, true, false, is_some, Option, Some, None, List, [], ◌∷◌, ◌++◌, refl, sym, subst}
use Rattle.std.specs.Prelude.{count_by}
use Rattle.hm_base.specs.Pages.{one_page}
use Rattle.hm_base.specs.Program.{Program}
use Rattle.hm_base.specs.declared.cause.Cause.{Cause}
use Rattle.hm_base.specs.declared.Frame.{Frame}
use Rattle.hm_base.specs.declared.ops.Op.{Op}
use Rattle.hm_history.specs.declared.phases.MoveStep.{MoveStep}
use Rattle.hm_history.specs.declared.phases.MoveStep.TheVariants.{FreezeOthers, TakeAndCopy, Commit, SetOwnTable, Finish}
use Rattle.hm_history.specs.Memory.Words.{writable}
use Rattle.hm_history.specs.Memory.Plain.{mirror_proc}
use Rattle.hm_history.specs.Memory.Places.{lowest_direct, lowest_moving, lowest_named, lowest_free}
use Rattle.hm_history.specs.Memory.Sequences.{some_overlap}
use Rattle.hm_history.specs.Memory.After.{After}
use Rattle.hm_history.specs.Kernel.Operation.{op_mirror}
use Rattle.hm_history.specs.Kernel.Stacks.{after_migration, next_cursor}
use Rattle.hm_history.specs.Kernel.Going.{is_direct, coming, coming_page, recorded_at}
use Rattle.hm_history.specs.Kernel.Due.{start_entry, skips, pool_of, others_of, fetch_page, commit_page, finish_page, due_step, due_moves, has_no_frame, right_of}
use Rattle.hm_history.specs.declared.Entry.{Entry}
use Rattle.hm_history.specs.declared.KeptAt.{KeptAt}
use Rattle.hm_history.specs.declared.KeptWhy.{KeptWhy}
use Rattle.hm_history.specs.declared.Kind.{Kind}
use Rattle.hm_history.specs.declared.phases.Body.{Body}
use Rattle.hm_history.specs.declared.phases.Migrating.{Migrating}
use Rattle.hm_history.specs.declared.phases.Phase.{Phase}
use Rattle.hm_history.proofs.Tests.{true_false}
use Rattle.hm_laws.specs.Past.{Past}
use Rattle.hm_laws.specs.Sound.{Sound}
use Rattle.hm_laws.specs.Records.{Among}
use Rattle.hm_laws.specs.Facts.{HoldsAll, facts}
use Rattle.hm_laws.proofs.Migration.Good.{seen_moves}
use Rattle.hm_laws.proofs.Migration.Coming.{Came, came_to}
use Rattle.hm_laws.proofs.Migration.EachStep.{from_first, commits_on}
use Rattle.hm_laws.proofs.Due.Good.{either, either_option}
use Rattle.hm_quiet_laws.specs.Keeping.{WasDealt}
use Rattle.hm_quiet_laws.proofs.keeping.FreshPages.{FreshAt}
use Rattle.hm_quiet_laws.proofs.alone.EndsWell.{Onward}
use Rattle.hm_quiet_laws.proofs.keeping.FreshStays.{FreshCome, come_fresh}
use Rattle.hm_quiet_laws.proofs.keeping.SelectedPages.{Left, Given, GivenCome, given_more, left_by, in_first_step, come_given, dealt_other, given_past, given_with}
use Rattle.hm_quiet_laws.proofs.measure.Shapes.{no_test}
use Rattle.hm_laws.proofs.Migration.PagePast.{not_before}
use Rattle.hm_laws.proofs.Migration.Setup.{at_itself}

-- of the last entry of a migration, after which its records are given up
pub record Answered (c : Program) (o : Op) (xs : List Migrating) (done : List Entry) (last : Kind) : Type 0 where
  pub each : (x : Migrating) → Among xs x → WasDealt c o done x
  pub tells : (last ≡ Kind.Migrated (count_by (λ x. x.moved) xs)) ⊎ (last ≡ Kind.Refused Cause.Outside)

-- what stands below a guard, a copy or a return
abbrev pub Given_under : Program → Op → List Migrating → List Phase → Option ℕ → List Entry → Type 0
Given_under c o xs (Phase.Moves step v ∷ []) but done = Given c o xs step v but done
Given_under c o xs st but done = Unit {0}

abbrev pub but_of : Body → ℕ → Option ℕ
but_of (Body.Fresh g) v = Some v
but_of body v = None

abbrev pub Deals : Program → Op → After → List Migrating → List Phase → List Entry → Type 0
Deals c o s xs (Phase.Moves step v ∷ below) done = Given c o xs step v None done
Deals c o s xs (Phase.Guard q r met told body ∷ below) done = Given_under c o xs below (but_of body r.first) done
Deals c o s xs (Phase.Copy f g k ∷ below) done = Given_under c o xs below None done
Deals c o s xs (Phase.Finish f to ∷ below) done = Given_under c o xs below None done
Deals c o s xs (Phase.Settle g ∷ below) done = Given_under c o xs below None done
Deals c o s xs st done = Unit {0}

abbrev pub DealsOn : Program → Op → After → ℕ → List Migrating → List Entry → Kind → List Migrating → List Phase → Type 0
DealsOn c o s a xs done k ys st = Onward (Deals c o) (λ _. Answered c o) s a xs done k ys st

abbrev pub DealTo : Program → After → ℕ → Op → List Migrating → MoveStep → ℕ → List Entry → Option Migrating → Kind → Type 0
DealTo c s a o xs step v done x k = DealsOn c o s a xs done k (recorded_at x xs k) (after_migration step x k (seen_moves s o step v x k))

others_deals : (c : Program) (s : After) (a : ℕ) (o : Op) (xs : List Migrating) (v page : ℕ) (f g : Option Frame) (m : Bool) (done : List Entry) → is_direct s f ≡ true → DealTo c s a o xs FreezeOthers v done (Some (record { page = page; source = f; dest = g; moved = m })) (others_of s f)
others_deals c s a o xs v page None g m done d = absurd (no_test d)
others_deals c s a o xs v page (Some f) g m done d = by (lowest_direct s.places f) d
  where
    by : (x : Option (ℕ × ℕ)) → is_some x ≡ true → DealTo c s a o xs FreezeOthers v done (Some (record { page = page; source = Some f; dest = g; moved = m })) (elim x [ Some x ↦ start_entry s x.0 (one_page x.1) | None ↦ Kind.Refused Cause.Never ])
    by None i = absurd (no_test i)
    by (Some x) i = in_first_step c o xs FreezeOthers page None (done ++ record { actor = a; kind = start_entry s x.0 (one_page x.1) } ∷ []) refl

fetch_deals : (c : Program) (s : After) (a : ℕ) (o : Op) (xs : List Migrating) (step : MoveStep) (v page : ℕ) (f g : Option Frame) (m : Bool) (done : List Entry) → Given c o xs TakeAndCopy page None done → DealTo c s a o xs step v done (Some (record { page = page; source = f; dest = g; moved = m })) (fetch_page c s o page)
fetch_deals c s a o xs step v page f g m done gv = either P (skips c o page) _ _ (λ e. stays (Kind.Kept (KeptAt.Page page) KeptWhy.Skipped) (inl e))
    (λ e. either_option P (lowest_free c s.places (pool_of s o)) _ _ (λ i. stays (Kind.Kept (KeptAt.Page page) KeptWhy.NoFrame) (left_by c o done (record { actor = a; kind = Kind.Kept (KeptAt.Page page) KeptWhy.NoFrame }) page (at_itself page))) (λ h i. taken h f))
  where
    P : Kind → Type 0
    P = DealTo c s a o xs step v done (Some (record { page = page; source = f; dest = g; moved = m }))

    stays : (k : Kind) → Left c o (done ++ record { actor = a; kind = k } ∷ []) page → Given c o xs TakeAndCopy (page + 1) None (done ++ record { actor = a; kind = k } ∷ [])
    stays k l = given_past c o xs TakeAndCopy page None done (record { actor = a; kind = k }) (λ y i e. record { taken = λ p. inr (subst (Left c o (done ++ record { actor = a; kind = k } ∷ [])) (sym e) l); moved = λ p d. absurd (no_test p) }) gv

    taken : (h : Frame) (f : Option Frame) → DealTo c s a o xs step v done (Some (record { page = page; source = f; dest = g; moved = m })) (Kind.Take h)
    taken h (Some i) = given_with c o xs TakeAndCopy (page + 1) None (done ++ record { actor = a; kind = Kind.Take h } ∷ []) (record { page = page; source = Some i; dest = Some h; moved = m }) (record { taken = λ p. inl refl; moved = λ p d. absurd (no_test p) }) (dealt_other c o xs TakeAndCopy page None done (record { actor = a; kind = Kind.Take h }) gv)
    taken h None = given_with c o xs TakeAndCopy (page + 1) None (done ++ record { actor = a; kind = Kind.Take h } ∷ []) (record { page = page; source = None; dest = Some h; moved = m }) (record { taken = λ p. inl refl; moved = λ p d. absurd (no_test p) }) (dealt_other c o xs TakeAndCopy page None done (record { actor = a; kind = Kind.Take h }) gv)

commit_deals : (c : Program) (s : After) (a : ℕ) (o : Op) (xs : List Migrating) (step : MoveStep) (v page : ℕ) (f g : Option Frame) (m : Bool) (done : List Entry) → Among xs (record { page = page; source = f; dest = g; moved = m }) → is_some g ≡ true → ((u : ℕ) → next_cursor step u ≡ Phase.Moves Commit (u + 1)) → FreshAt s o xs Commit page → Given c o xs Commit page None done → DealTo c s a o xs step v done (Some (record { page = page; source = f; dest = g; moved = m })) (commit_page s (mirror_proc s.plain (op_mirror o)) page f g)
commit_deals c s a o xs step v page (Some f) (Some g) m done am sm ns fr gv = given_with c o xs Commit (page + 1) None (done ++ record { actor = a; kind = Kind.Committed f g } ∷ []) (record { page = page; source = Some f; dest = Some g; moved = true }) (record { taken = λ p. inl refl; moved = λ p d. inr refl }) (dealt_other c o xs Commit page None done (record { actor = a; kind = Kind.Committed f g }) gv)
commit_deals c s a o xs step v page None (Some g) m done am sm ns fr gv = either (DealTo c s a o xs step v done (Some (record { page = page; source = None; dest = Some g; moved = m }))) (has_no_frame (s.places.place p page)) _ _
    (λ e. starts (next_cursor step page) (ns page)) (λ e. absurd (true_false (has_no_frame (s.places.place p page)) (fr (record { page = page; source = None; dest = Some g; moved = m }) am refl (not_before page)) e))
  where
    p : ℕ
    p = mirror_proc s.plain (op_mirror o)

    e : Entry
    e = record { actor = a; kind = start_entry s p (one_page page) }

    starts : (w : Phase) → w ≡ Phase.Moves Commit (page + 1) → Deals c o s xs (Phase.Guard p (one_page page) (some_overlap s.sequences p (one_page page)) None (Body.Fresh g) ∷ w ∷ []) (done ++ e ∷ [])
    starts w i = subst (λ w. Deals c o s xs (Phase.Guard p (one_page page) (some_overlap s.sequences p (one_page page)) None (Body.Fresh g) ∷ w ∷ []) (done ++ e ∷ [])) (sym i) (given_past c o xs Commit page (Some page) done e (λ y j q. record { taken = λ z. (given_more c o xs Commit page None done e gv y j).taken refl; moved = λ z d. inl q }) gv)
commit_deals c s a o xs step v page f None m done am sm ns fr gv = absurd (no_test sm)

-- later steps leave it so
after_later : (c : Program) (o : Op) (xs : List Migrating) (v u : ℕ) (done : List Entry) (e : Entry) → Given c o xs Finish v None done → Given c o xs Finish u None (done ++ e ∷ [])
after_later c o xs v u done e gv y i = record { taken = λ p. (given_more c o xs Finish v None done e gv y i).taken refl; moved = λ p d. (gv y i).moved refl d }

set_own_deals : (c : Program) (s : After) (a : ℕ) (o : Op) (xs : List Migrating) (step : MoveStep) (v : ℕ) (x : Migrating) (m : ℕ) (w : _) (done : List Entry) → Given c o xs SetOwnTable x.page None done → DealTo c s a o xs step v done (Some x) (Kind.Set m x.page x.dest w s.length)
set_own_deals c s a o xs step v x m w done gv = λ y i. record { taken = λ p. (given_more c o xs SetOwnTable x.page None done (record { actor = a; kind = Kind.Set m x.page x.dest w s.length }) gv y i).taken refl; moved = λ p d. (gv y i).moved refl d }

finish_page_deals : (c : Program) (s : After) (a : ℕ) (o : Op) (xs : List Migrating) (step : MoveStep) (v page : ℕ) (f g : Option Frame) (m : Bool) (done : List Entry) → Given c o xs Finish page None done → DealTo c s a o xs step v done (Some (record { page = page; source = f; dest = g; moved = m })) (finish_page s f g m)
finish_page_deals c s a o xs step v page f g m done gv = by f g m
  where
    on : (k : Kind) → Given c o xs Finish (page + 1) None (done ++ record { actor = a; kind = k } ∷ [])
    on k = after_later c o xs page (page + 1) done (record { actor = a; kind = k }) gv

    by : (f g : Option Frame) (m : Bool) → DealTo c s a o xs step v done (Some (record { page = page; source = f; dest = g; moved = m })) (finish_page s f g m)
    by None (Some g) m = on (Kind.Done g)
    by None None m = on (Kind.Refused Cause.Never)
    by (Some f) (Some g) true = either_option (DealTo c s a o xs step v done (Some (record { page = page; source = Some f; dest = Some g; moved = true }))) (lowest_moving s.places f) _ _ (λ e. on (Kind.Drop f)) (λ x e. on _)
    by (Some f) None true = either_option (DealTo c s a o xs step v done (Some (record { page = page; source = Some f; dest = None; moved = true }))) (lowest_moving s.places f) _ _ (λ e. either_option (DealTo c s a o xs step v done (Some (record { page = page; source = Some f; dest = None; moved = true }))) (lowest_named s.places f) _ _ (λ i. on (Kind.Drop f)) (λ x i. on (Kind.Done f))) (λ x e. on _)
    by (Some f) g false = either_option (DealTo c s a o xs step v done (Some (record { page = page; source = Some f; dest = g; moved = false }))) (lowest_moving s.places f) _ _ (λ e. either_option (DealTo c s a o xs step v done (Some (record { page = page; source = Some f; dest = g; moved = false }))) (lowest_named s.places f) _ _ (λ i. on (Kind.Drop f)) (λ x i. on (Kind.Done f))) (λ x e. on _)

-- at the end
ended_deals : (c : Program) (s : After) (a : ℕ) (o : Op) (xs : List Migrating) (step : MoveStep) (v : ℕ) (done : List Entry) → Given c o xs Finish 0 None done → DealTo c s a o xs step v done None (Kind.Migrated (count_by (λ x. x.moved) xs))
ended_deals c s a o xs step v done gv = record { each = λ x i. on x ((gv x i).taken refl) ((gv x i).moved refl); tells = inl refl }
  where
    on : (x : Migrating) → (is_some x.dest ≡ true) ⊎ Left c o done x.page → (is_some x.dest ≡ true → ⊥ ⊎ (x.moved ≡ true)) → WasDealt c o done x
    on x (inr h) m = inr h
    on x (inl h) m = to (m h)
      where
        to : ⊥ ⊎ (x.moved ≡ true) → WasDealt c o done x
        to (inl k) = absurd k
        to (inr k) = inl k

abbrev At : Program → After → ℕ → Op → List Migrating → MoveStep → ℕ → List Entry → Option (MoveStep × Migrating) → Type 0
At c s a o xs step v done r = coming s o xs (Phase.Moves step v) ≡ r → FreshCome s o xs r → GivenCome c o xs done r → DealTo c s a o xs step v done (coming_page r) (due_moves c s o xs r)

at_record : (c : Program) (s : After) (t : Past) (a : ℕ) (o : Op) (xs : List Migrating) (step : MoveStep) (v : ℕ) (done : List Entry) (k : MoveStep) (x : Migrating) → Came s t a o xs k x → At c s a o xs step v done (Some (k, x))
at_record c s t a o xs step v done FreezeOthers x m e = λ fr gv. subst (λ n. DealTo c s a o xs n v done (Some x) (due_step c s o FreezeOthers x)) (sym (from_first s o xs step v x e)) (others_deals c s a o xs v x.page x.source x.dest x.moved done m.concerned)
at_record c s t a o xs step v done TakeAndCopy x m e = λ fr gv. fetch_deals c s a o xs step v x.page x.source x.dest x.moved done gv
at_record c s t a o xs step v done Commit x m e = λ fr gv. commit_deals c s a o xs step v x.page x.source x.dest x.moved done m.among m.concerned (commits_on s o xs step v x e) fr gv
at_record c s t a o xs step v done SetOwnTable x m e = λ fr gv. set_own_deals c s a o xs step v x (op_mirror o) (right_of (writable (s.places.place (mirror_proc s.plain (op_mirror o)) x.page))) done gv
at_record c s t a o xs step v done Finish x m e = λ fr gv. finish_page_deals c s a o xs step v x.page x.source x.dest x.moved done gv

pub moves_deal : (c : Program) (s : After) (t : Past) (a : ℕ) (o : Op) (xs : List Migrating) (step : MoveStep) (v : ℕ) (done : List Entry) → Sound c s t → HoldsAll s t a (facts o xs (Phase.Moves step v ∷ [])) → FreshAt s o xs step v → Given c o xs step v None done → DealTo c s a o xs step v done (coming_page (coming s o xs (Phase.Moves step v))) (due_moves c s o xs (coming s o xs (Phase.Moves step v)))
moves_deal c s t a o xs step v done so h fr gv = came_to c s t a o xs step v (At c s a o xs step v done) so h.1.1 h.1.0 (record {
  here = λ k x m. at_record c s t a o xs step v done k x m;
  ended = λ m e b g. ended_deals c s a o xs step v done g;
}) refl (come_fresh s o xs step v fr) (come_given c s o xs done step v h.1.1.1.0.rising gv)
