-- An entry of an actor in a migration keeps what its inner migration says of its records.
use Rattle.std.proofs.Common.{refl, ap, sym, subst, ◌∙◌}
use Rattle.std.proofs.lemmas.Bool.{true≢false, false≢true}
use Rattle.std.specs.Prelude.{◌≡◌, ℕ, Bool, true, false, Option, Some}
use Rattle.std.specs.Prelude.{None}
use Rattle.std.specs.Prelude.{List, [], ◌∷◌, ◌++◌, fold}
use Rattle.hm_base.specs.Pages.{Pages}
use Rattle.hm_base.specs.declared.Frame.{Frame}
use Rattle.hm_base.specs.declared.Place.{Place}
use Rattle.hm_base.specs.declared.ops.Op.{Op}
use Rattle.hm_history.specs.Memory.After.{After}
use Rattle.hm_history.specs.Kernel.Operation.{is_migration}
use Rattle.hm_history.specs.Kernel.Stacks.{stack_after, after_migration}
use Rattle.hm_history.specs.Kernel.Going.{seen_at}
use Rattle.hm_history.specs.Kernel.Going.{recorded, recorded_at, recorded_body, coming, coming_page}
use Rattle.hm_history.specs.Kernel.Going.{steps_from}
use Rattle.hm_history.specs.declared.Kind.{Kind}
use Rattle.hm_history.specs.declared.phases.Body.{Body}
use Rattle.hm_history.specs.declared.phases.Migrating.{Migrating}
use Rattle.hm_history.specs.declared.phases.MoveStep.{MoveStep}
use Rattle.hm_history.specs.declared.phases.Phase.{Phase}
use Rattle.hm_history.proofs.Tests.{no_test, same_some, some_none}
use Rattle.hm_laws.specs.Past.{Past}
use Rattle.hm_laws.specs.Records.{Among, is_nil}
use Rattle.hm_laws.specs.Facts.{facts, HoldsAll}
use Rattle.hm_laws.proofs.Migration.Records.{step_says}
use Rattle.hm_protocol.specs.declared.events.Event.{Event}
use Rattle.hm_protocol.specs.Known.{Move, Known}
use Rattle.hm_protocol.specs.Noted.{known_next}
use Rattle.hm_protocol.specs.Projection.{comes_to, events_by, is_start}
use Rattle.hm_protocol.specs.Projection.{is_past_commits, shown, in_trace, record_at, moved}
use Rattle.hm_protocol.proofs.Entries.{not_home, nothing_comes}
use Rattle.hm_protocol.proofs.Steps.{by_thread}
use Rattle.hm_protocol.proofs.ComesFrom.{ComesFrom}
use Rattle.hm_protocol.proofs.Stands.{Stand, stand, is_passing, is_moves, passes, passing, turned, turns}
use Rattle.hm_protocol.proofs.Leading.{Leads, leads}
use Rattle.hm_protocol.proofs.DueKinds.{is_answer}
use Rattle.hm_protocol.proofs.QuietEvents.{by_quiet}
use Rattle.hm_protocol.proofs.InnerMigration.{is_open, has_moved, Grows, grows}
use Rattle.hm_protocol.proofs.Coming.{come_says, finish_sets_nothing}
use Rattle.hm_protocol.proofs.DueKinds.{is_set}
use Rattle.hm_protocol.proofs.MovedRecords.{AllFresh, AllMoved, MoveOk, grown, in_turn, mid, turned_ok, recorded_same}
use Rattle.hm_protocol.proofs.MovedRecords.{recorded_moved, moved_now, is_fresh, body_fresh, body_moved}

-- an actor in a migration: what its inner migration says of its records
abbrev pub Migrates : Op → MoveStep → List Move → List Migrating → Type 0
Migrates o step ys xs = (is_migration o ≡ true) × MoveOk step ys xs

-- what a thread's migrations are after the events of an entry
abbrev pub moves_after : Known → After → After → ℕ → Op → List Migrating → List Phase → Phase → Phase → Kind → List Move
moves_after k s u a o xs stack top after j =
    (fold known_next k (by_thread a (comes_to s o xs top j ++ events_by s u a o xs stack after j))).moves a

same_step : (x y : MoveStep) → Stand.Moves x ≡ Stand.Moves y → x ≡ y
same_step x y e = ap (λ (z : Stand). elim z [ Stand.Moves step ↦ step | _ ↦ x ]) e

pub rests_not : (x : MoveStep) → Stand.Rests ≡ Stand.Moves x → ⊥
rests_not x e = no_test (ap (λ (z : Stand). elim z [ Stand.Moves step ↦ true | _ ↦ false ]) e)

-- ---- at the cursor of a migration

answers_not : (s : After) (o : Op) (xs : List Migrating) (step : MoveStep) (n : ℕ) (at : MoveStep × Migrating)
    (j : Kind)
    → coming s o xs (Phase.Moves step n) ≡ Some at → ComesFrom s o xs (Phase.Moves step n) j → is_answer j ≡ false
answers_not s o xs step n at (Kind.Migrated i) e h = absurd (some_none (coming s o xs (Phase.Moves step n)) at e h)
answers_not s o xs step n at j e h = refl

past_set : (s : After) (o : Op) (xs : List Migrating) (step : MoveStep) (n : ℕ) (j : Kind)
    → ComesFrom s o xs (Phase.Moves step n) j → is_set j ≡ true
    → is_past_commits (coming s o xs (Phase.Moves step n)) ≡ true
past_set s o xs step n (Kind.Set m v f w from) h e = ap is_past_commits h.1.0
past_set s o xs step n j h e = absurd (false≢true e)

set_before_last : (s : After) (o : Op) (xs : List Migrating) (step : MoveStep) (n : ℕ) (j : Kind)
    → ComesFrom s o xs (Phase.Moves step n) j → is_set j ≡ true → step ≡ MoveStep.Finish → ⊥
set_before_last s o xs step n (Kind.Set m v f w from) h e g =
    finish_sets_nothing s o xs n h.0 (ap (λ step. coming s o xs (Phase.Moves step n)) (sym g) ∙ h.1.0)
set_before_last s o xs step n j h e g = absurd (false≢true e)

page_is : (x : Option (MoveStep × Migrating)) (at : MoveStep × Migrating) (y : Migrating) → x ≡ Some at
    → coming_page x ≡ Some y
    → at.1 ≡ y
page_is x at y e h = same_some (coming_page x) at.1 y (ap coming_page e) h

at_cursor : (s u : After) (a : ℕ) (o : Op) (xs : List Migrating) (step : MoveStep) (n : ℕ) (below : List Phase)
    (after : Phase)
    (j : Kind) (k : Known) (at : MoveStep × Migrating) → coming s o xs (Phase.Moves step n) ≡ Some at
    → ComesFrom s o xs (Phase.Moves step n) j → Migrates o step (k.moves a) xs
    → Migrates o (turned step j) (moves_after k s u a o xs (Phase.Moves step n ∷ below) (Phase.Moves step n) after j)
    (recorded_at (coming_page (coming s o xs (Phase.Moves step n))) xs j)
at_cursor s u a o xs step n below after j k at e from h = (
  h.0,
  turned_ok step j (is_past_commits (coming s o xs (Phase.Moves step n))) (l.moves a) _ xs _ (same j) all more.paged
      (past_set s o xs step n j from) (set_before_last s o xs step n j from) (mid s o xs step n j k a h.0 h.1),
)
  where
    top : Phase
    top = Phase.Moves step n

    l : Known
    l = fold known_next k (by_thread a (comes_to s o xs (Phase.Moves step n) j))

    es : List Event
    es = events_by s u a o xs (Phase.Moves step n ∷ below) after j

    zs : List Move
    zs = moves_after k s u a o xs (Phase.Moves step n ∷ below) (Phase.Moves step n) after j

    more : Grows ((fold known_next k (by_thread a (comes_to s o xs (Phase.Moves step n) j))).moves a)
        (moves_after k s u a o xs (Phase.Moves step n ∷ below) (Phase.Moves step n) after j)
    more = subst (λ m. Grows (l.moves a) (m.moves a)) (sym (in_turn a (comes_to s o xs (Phase.Moves step n) j) es k))
        (grows a es (by_quiet s u a o xs (Phase.Moves step n ∷ below) after j (not_home o h.0)
        (answers_not s o xs step n at j e from)) l)

    same : (j : Kind) → is_start j ≡ true → recorded_at (coming_page (coming s o xs (Phase.Moves step n))) xs j ≡ xs
    same (Kind.Start p r q) i = recorded_same (coming_page (coming s o xs (Phase.Moves step n))) xs p q r
    same j i = absurd (false≢true i)

    among : (x : Migrating) → coming_page (coming s o xs (Phase.Moves step n)) ≡ Some x → Among xs x
    among x i = subst (Among xs) (page_is (coming s o xs (Phase.Moves step n)) at x e i)
        (come_says s o xs (steps_from step) n at.0 at.1 e).0

    said : is_open (l.moves a) ≡ true → (x : Migrating) (f g : Frame)
        → coming_page (coming s o xs (Phase.Moves step n)) ≡ Some x → j ≡ Kind.Committed f g
        → has_moved (moves_after k s u a o xs (Phase.Moves step n ∷ below) (Phase.Moves step n) after j) x.page ≡ true
    said op x f g i c = ap (λ m. has_moved (m.moves a) x.page) (in_turn a (comes_to s o xs (Phase.Moves step n) j) es k)
        ∙ (ap (λ es. has_moved ((fold known_next l (by_thread a es)).moves a) x.page) events
        ∙ moved_now l a x.page (in_trace g) op)
      where
        its : record_at (coming s o xs (Phase.Moves step n)) ≡ Some x
        its = ap record_at e ∙ ap Some (page_is (coming s o xs (Phase.Moves step n)) at x e i)

        events : events_by s u a o xs (Phase.Moves step n ∷ below) after j ≡ Event.Moved x.page (in_trace g) ∷ []
        events = ap (events_by s u a o xs (Phase.Moves step n ∷ below) after) c
            ∙ ap (λ r. moved s o (Phase.Moves step n ∷ below) r g) its

    all : AllMoved ((fold known_next k (by_thread a (comes_to s o xs (Phase.Moves step n) j))).moves a) xs
        → AllMoved (moves_after k s u a o xs (Phase.Moves step n ∷ below) (Phase.Moves step n) after j)
        (recorded_at (coming_page (coming s o xs (Phase.Moves step n))) xs j)
    all g = recorded_moved (coming_page (coming s o xs (Phase.Moves step n))) xs j zs among (said g.0)
        (grown (l.moves a) zs xs more g)

-- ---- at a phase that passes on

-- a fresh page gets its frame after the first step
fresh_later : (s : After) (t : Past) (a : ℕ) (o : Op) (xs : List Migrating) (p : ℕ) (r : Pages) (met : Bool)
    (told : Option ℕ) (g : Frame) (below : List Phase) (step : MoveStep)
    → HoldsAll s t a (facts o xs (Phase.Guard p r met told (Body.Fresh g) ∷ below)) → stand below ≡ Stand.Moves step
    → MoveStep.Commit ≡ step
fresh_later s t a o xs p r met told g (Phase.Moves at v ∷ []) step h e =
    sym (step_says at MoveStep.Commit h.1.1.1.0) ∙ same_step at step e
fresh_later s t a o xs p r met told g (Phase.Moves at v ∷ x ∷ below) step h e = absurd h.0
fresh_later s t a o xs p r met told g [] step h e = absurd h.0
fresh_later s t a o xs p r met told g (x ∷ below) step h e = absurd h.0

-- the records after an entry of a guard
guard_on : (s : After) (t : Past) (a : ℕ) (o : Op) (xs : List Migrating) (p : ℕ) (r : Pages) (met : Bool)
    (told : Option ℕ) (body : Body) (below : List Phase) (step : MoveStep) (j : Kind) (ys zs : List Move)
    → HoldsAll s t a (facts o xs (Phase.Guard p r met told body ∷ below)) → stand below ≡ Stand.Moves step → Grows ys zs
    → (is_open ys ≡ true → (g : Frame) (q v : ℕ) (x : Place) → body ≡ Body.Fresh g → j ≡ Kind.Place q v x
    → has_moved zs v ≡ true)
    → MoveOk step ys xs → MoveOk step zs (recorded_body body xs j)
guard_on s t a o xs p r met told body below MoveStep.FreezeOthers j ys zs h e more m ok = body_fresh body xs j
    (not_fresh body refl) ok
  where
    not_fresh : (b : Body) → body ≡ b → is_fresh b ≡ false
    not_fresh (Body.Fresh g) i = absurd (no_test (ap (λ (x : MoveStep). elim x [ MoveStep.Commit ↦ false | _ ↦ true ])
        (fresh_later s t a o xs p r met told g below MoveStep.FreezeOthers
        (subst (λ b. HoldsAll s t a (facts o xs (Phase.Guard p r met told b ∷ below))) i h) e)))
    not_fresh b i = refl
guard_on s t a o xs p r met told body below MoveStep.SetOwnTable j ys zs h e more m ok =
    (body_moved body xs j zs (m ok.0.0) (grown ys zs xs more ok.0), more.paged ok.1)
guard_on s t a o xs p r met told body below MoveStep.TakeAndCopy j ys zs h e more m ok =
    body_moved body xs j zs (m ok.0) (grown ys zs xs more ok)
guard_on s t a o xs p r met told body below MoveStep.Commit j ys zs h e more m ok =
    body_moved body xs j zs (m ok.0) (grown ys zs xs more ok)
guard_on s t a o xs p r met told body below MoveStep.Finish j ys zs h e more m ok =
    body_moved body xs j zs (m ok.0) (grown ys zs xs more ok)

still_ok : (step : MoveStep) (ys zs : List Move) (xs : List Migrating) → Grows ys zs → MoveOk step ys xs
    → MoveOk step zs xs
still_ok MoveStep.FreezeOthers ys zs xs more ok = ok
still_ok MoveStep.SetOwnTable ys zs xs more ok = (grown ys zs xs more ok.0, more.paged ok.1)
still_ok MoveStep.TakeAndCopy ys zs xs more ok = grown ys zs xs more ok
still_ok MoveStep.Commit ys zs xs more ok = grown ys zs xs more ok
still_ok MoveStep.Finish ys zs xs more ok = grown ys zs xs more ok

no_answer : (s : After) (o : Op) (xs : List Migrating) (top : Phase) (j : Kind) → is_moves top ≡ false
    → ComesFrom s o xs top j → is_answer j ≡ false
no_answer s o xs (Phase.Moves step n) j h from = absurd (true≢false h)
no_answer s o xs top (Kind.Migrated n) h from = absurd from
no_answer s o xs top j h from = refl

at_passing : (s u : After) (t : Past) (a : ℕ) (o : Op) (xs : List Migrating) (top : Phase) (below : List Phase)
    (after : Phase)
    (j : Kind) (k : Known) (page : Option Migrating) (step : MoveStep) → is_passing top ≡ true → is_moves top ≡ false
    → HoldsAll s t a (facts o xs (top ∷ below)) → ComesFrom s o xs top j → stand below ≡ Stand.Moves step
    → Migrates o step (k.moves a) xs
    → Migrates o step (moves_after k s u a o xs (top ∷ below) top after j) (recorded top page xs j)
at_passing s u t a o xs top below after j k page step pass none h from e ok = (ok.0, pick top refl)
  where
    zs : List Move
    zs = moves_after k s u a o xs (top ∷ below) top after j

    events : comes_to s o xs top j ++ events_by s u a o xs (top ∷ below) after j
        ≡ events_by s u a o xs (top ∷ below) after j
    events = ap (λ es. es ++ events_by s u a o xs (top ∷ below) after j) (nothing_comes s o xs top j none)

    more : Grows (k.moves a) (moves_after k s u a o xs (top ∷ below) top after j)
    more = subst (λ es. Grows (k.moves a) ((fold known_next k (by_thread a es)).moves a)) (sym events)
        (grows a (events_by s u a o xs (top ∷ below) after j)
        (by_quiet s u a o xs (top ∷ below) after j (not_home o ok.0) (no_answer s o xs top j none from)) k)

    placed_now : (p : ℕ) (r : Pages) (met : Bool) (told : Option ℕ) (body : Body) → top ≡ Phase.Guard p r met told body
        → is_open (k.moves a) ≡ true → (g : Frame) (q v : ℕ) (x : Place) → body ≡ Body.Fresh g → j ≡ Kind.Place q v x
        → has_moved (moves_after k s u a o xs (top ∷ below) top after j) v ≡ true
    placed_now p r met told body i op g q v x b c =
        ap (λ es. has_moved ((fold known_next k (by_thread a es)).moves a) v) (events ∙ now)
        ∙ moved_now k a v (shown x) op
      where
        now : events_by s u a o xs (top ∷ below) after j ≡ Event.Moved v (shown x) ∷ []
        now = ap (λ top. events_by s u a o xs (top ∷ below) after j) (i ∙ ap (λ body. Phase.Guard p r met told body) b)
            ∙ ap (events_by s u a o xs (Phase.Guard p r met told (Body.Fresh g) ∷ below) after) c

    pick : (x : Phase) → top ≡ x
        → MoveOk step (moves_after k s u a o xs (top ∷ below) top after j) (recorded x page xs j)
    pick (Phase.Guard p r met told body) i = guard_on s t a o xs p r met told body below step j (k.moves a) zs
        (subst (λ x. HoldsAll s t a (facts o xs (x ∷ below))) i h) e more (placed_now p r met told body i) ok.1
    pick (Phase.Moves at n) i = absurd (true≢false (sym (ap is_moves i) ∙ none))
    pick x i = still_ok step (k.moves a) zs xs more ok.1

-- ---- the other phases

ready_none : (s : After) (t : Past) (a : ℕ) (o : Op) (xs : List Migrating) (below : List Phase)
    → HoldsAll s t a (facts o xs (Phase.Ready ∷ below)) → is_migration o ≡ true → is_nil xs ≡ true
ready_none s t a (Op.ToDevice m r) xs [] h e = h.1.1.0
ready_none s t a (Op.ToSystem m r) xs [] h e = h.1.1.0
ready_none s t a o xs [] h e = absurd (false≢true e)
ready_none s t a o xs (x ∷ below) h e = absurd h.0

nil_fresh : (xs : List Migrating) → is_nil xs ≡ true → AllFresh xs
nil_fresh [] h = λ x i. absurd i
nil_fresh (x ∷ xs) h = absurd (false≢true h)

after_else : (s u : After) (t : Past) (a : ℕ) (o : Op) (xs : List Migrating) (top : Phase) (below : List Phase)
    (after : Phase) (j : Kind) (k : Known) → is_moves top ≡ false → HoldsAll s t a (facts o xs (top ∷ below))
    → ComesFrom s o xs top j
    → ((step : MoveStep) → stand (top ∷ below) ≡ Stand.Moves step → Migrates o step (k.moves a) xs) → (step : MoveStep)
    → stand (stack_after o (top ∷ below) j (seen_at s o xs top j)) ≡ Stand.Moves step
    → Migrates o step (moves_after k s u a o xs (top ∷ below) top after j)
    (recorded top (seen_at s o xs top j).page xs j)
after_else s u t a o xs top below after j k none h from was step e = pick (is_passing top) refl
  where
    pick : (b : Bool) → is_passing top ≡ b
        → Migrates o step (moves_after k s u a o xs (top ∷ below) top after j)
        (recorded top (seen_at s o xs top j).page xs j)
    pick true p = let g : stand below ≡ Stand.Moves step = sym (passes o top below j (seen_at s o xs top j) p) ∙ e in
        at_passing s u t a o xs top below after j k (seen_at s o xs top j).page step p none h from g
        (was step (passing top below p ∙ g))
    pick false p = subst (λ x. Migrates o step (moves_after k s u a o xs (top ∷ below) top after j)
        (recorded x (seen_at s o xs top j).page xs j)) (sym way.0) (
          way.1.1,
          subst (λ x. MoveOk x (moves_after k s u a o xs (top ∷ below) top after j) xs) (sym way.1.0)
              (nil_fresh xs (ready_none s t a o xs below (subst (λ x. HoldsAll s t a (facts o xs (x ∷ below))) way.0 h)
              way.1.1)),
        )
      where
        way : (top ≡ Phase.Ready) × ((step ≡ MoveStep.FreezeOthers) × (is_migration o ≡ true))
        way = subst (Leads o top below j) e (leads o top below j (seen_at s o xs top j) p none)

-- what an entry of its actor makes of it
pub after_own : (s u : After) (t : Past) (a : ℕ) (o : Op) (xs : List Migrating) (top : Phase) (below : List Phase)
    (after : Phase) (j : Kind) (k : Known) → HoldsAll s t a (facts o xs (top ∷ below)) → ComesFrom s o xs top j
    → ((step : MoveStep) → stand (top ∷ below) ≡ Stand.Moves step → Migrates o step (k.moves a) xs) → (step : MoveStep)
    → stand (stack_after o (top ∷ below) j (seen_at s o xs top j)) ≡ Stand.Moves step
    → Migrates o step (moves_after k s u a o xs (top ∷ below) top after j)
    (recorded top (seen_at s o xs top j).page xs j)
after_own s u t a o xs (Phase.Moves at n) below after j k h from was step e =
    pick (coming s o xs (Phase.Moves at n)) refl e
  where
    pick : (x : Option (MoveStep × Migrating)) → coming s o xs (Phase.Moves at n) ≡ x
        → stand (after_migration at (coming_page x) j (seen_at s o xs (Phase.Moves at n) j)) ≡ Stand.Moves step
        → Migrates o step (moves_after k s u a o xs (Phase.Moves at n ∷ below) (Phase.Moves at n) after j)
        (recorded_at (coming_page (coming s o xs (Phase.Moves at n))) xs j)
    pick None i g = absurd (rests_not step g)
    pick (Some y) i g = subst (λ step. Migrates o step
        (moves_after k s u a o xs (Phase.Moves at n ∷ below) (Phase.Moves at n) after j)
        (recorded_at (coming_page (coming s o xs (Phase.Moves at n))) xs j))
        (same_step (turned at j) step (sym (turns at y.1 j (seen_at s o xs (Phase.Moves at n) j)) ∙ g))
        (at_cursor s u a o xs at n below after j k y i from (was at refl))
after_own s u t a o xs top below after j k h from was step e =
    after_else s u t a o xs top below after j k refl h from was step e
