-- Each entry keeps what is known of migrations, and a page that a migration sets is one that has moved.
use Rattle.std.proofs.Common.{refl, ap, sym, subst, ◌∙◌}
use Rattle.std.proofs.lemmas.Bool.{false≢true, and_parts, and_right}
use Rattle.std.specs.Prelude.{◌≡◌, ℕ, Bool, true, false, not, ◌&&◌, ◌||◌, ◌==◌, Option, Some}
use Rattle.std.specs.Prelude.{List, [], ◌∷◌, fold}
use Rattle.std.specs.List.{list_any}
use Rattle.hm_base.specs.Program.{Program}
use Rattle.hm_base.specs.declared.Frame.{Frame}
use Rattle.hm_base.specs.declared.ops.Op.{Op}
use Rattle.hm_history.specs.Memory.After.{After}
use Rattle.hm_history.specs.Kernel.Operation.{op_mirror, is_to_device}
use Rattle.hm_history.specs.Kernel.Stacks.{stack_after}
use Rattle.hm_history.specs.Kernel.Going.{State, state_start, op_at, going_next, seen_at}
use Rattle.hm_history.specs.Kernel.Going.{recorded, coming, concerns, sets_now}
use Rattle.hm_history.specs.Kernel.Going.{steps_from, state_next}
use Rattle.hm_history.specs.declared.TableRight.{TableRight}
use Rattle.hm_history.specs.declared.Kind.{Kind}
use Rattle.hm_history.specs.declared.Entry.{Entry}
use Rattle.hm_history.specs.declared.phases.Migrating.{Migrating}
use Rattle.hm_history.specs.declared.phases.MoveStep.{MoveStep}
use Rattle.hm_history.specs.declared.phases.Phase.{Phase}
use Rattle.hm_laws.specs.Records.{Among}
use Rattle.hm_protocol.specs.Words.{is_sole}
use Rattle.hm_protocol.specs.Known.{Move, Known, known_start, is_migrated, is_look_up}
use Rattle.hm_protocol.specs.Noted.{known_next}
use Rattle.hm_protocol.specs.Projection.{comes_to, events_in, top_of}
use Rattle.hm_protocol.specs.Projection.{is_past_commits}
use Rattle.hm_protocol.proofs.Steps.{Step, by_thread}
use Rattle.hm_protocol.proofs.ComesFrom.{SetAt, turn_from}
use Rattle.hm_protocol.proofs.Stands.{Stand, stand}
use Rattle.hm_protocol.proofs.InnerMigration.{is_paged, has_moved, others_moves}
use Rattle.hm_protocol.proofs.Coming.{come_says, finish_sets_nothing}
use Rattle.hm_protocol.proofs.MovedRecords.{Mid, all_mid, paged_mid, mid}
use Rattle.hm_protocol.proofs.RecordsKept.{Migrates, rests_not, after_own}
use Rattle.hm_laws.proofs.Histories.Short.{going_is}
use Rattle.hm_protocol.proofs.Entries.{each_actor, first_rests, going_holds, known_after, events_are}

-- each actor in a migration is known to be
abbrev pub AllMigrate : Program → Known → State → Type 0
AllMigrate c k t = (a : ℕ) (o : Op) → op_at c a (t.going a).index ≡ Some o → (step : MoveStep)
    → stand (t.going a).stack ≡ Stand.Moves step → Migrates o step (k.moves a) (t.going a).pages

-- so it is after each entry
pub all_migrate : (c : Program) (t : State) (e : Entry) (k : Known) → Step c t e → AllMigrate c k t
    → AllMigrate c (known_after c t e k) (state_next c t e)
all_migrate c t e k s kn = each_actor c t e (λ a g. (o : Op) → op_at c a g.index ≡ Some o → (step : MoveStep)
    → stand g.stack ≡ Stand.Moves step → Migrates o step ((known_after c t e k).moves a) g.pages) own
    (λ a ne. subst (λ ys. (o : Op) → op_at c a (t.going a).index ≡ Some o → (step : MoveStep)
    → stand (t.going a).stack ≡ Stand.Moves step → Migrates o step ys (t.going a).pages)
    (sym (others_moves e.actor a ne (events_in t u e.actor e.kind (op_at c e.actor (t.going e.actor).index)) k)) (kn a))
  where
    u : State
    u = state_next c t e

    own : (o : Op) → op_at c e.actor (going_next c t.after e.actor (t.going e.actor) e.kind).index ≡ Some o
        → (step : MoveStep)
        → stand (going_next c t.after e.actor (t.going e.actor) e.kind).stack ≡ Stand.Moves step
        → Migrates o step ((known_after c t e k).moves e.actor)
        (going_next c t.after e.actor (t.going e.actor) e.kind).pages
    own = subst (λ g. (o : Op) → op_at c e.actor g.index ≡ Some o → (step : MoveStep) → stand g.stack ≡ Stand.Moves step
        → Migrates o step ((known_after c t e k).moves e.actor) g.pages)
        (sym (going_is c t.after e.actor (t.going e.actor) e.kind s.turn.op s.turn.top s.turn.below s.turn.is_op
        s.turn.is_stack))
        (going_holds (λ o x us. (step : MoveStep) → x ≡ Stand.Moves step
        → Migrates o step ((known_after c t e k).moves e.actor) us)
        c e.actor (t.going e.actor).index s.turn.op
        (stack_after s.turn.op (s.turn.top ∷ s.turn.below) e.kind
        (seen_at t.after s.turn.op (t.going e.actor).pages s.turn.top e.kind))
        (recorded s.turn.top (seen_at t.after s.turn.op (t.going e.actor).pages s.turn.top e.kind).page
        (t.going e.actor).pages e.kind)
        s.turn.is_op (λ o us step q. absurd (rests_not step q))
        (λ step q. subst (λ es. Migrates s.turn.op step ((fold known_next k (by_thread e.actor es)).moves e.actor)
        (recorded s.turn.top (seen_at t.after s.turn.op (t.going e.actor).pages s.turn.top e.kind).page
        (t.going e.actor).pages e.kind))
        (sym (events_are c t u e.actor e.kind s.turn.op s.turn.top s.turn.below s.turn.is_op s.turn.is_stack))
        (after_own t.after u.after s.past e.actor s.turn.op (t.going e.actor).pages s.turn.top s.turn.below
        (top_of (u.going e.actor).stack) e.kind k s.turn.known (turn_from c t e s)
        (λ at g. kn e.actor s.turn.op s.turn.is_op at (ap stand s.turn.is_stack ∙ g)) step q)))

-- at first none migrates
pub none_migrate : (c : Program) → AllMigrate c known_start (state_start c)
none_migrate c a o i step e = absurd (rests_not step (sym (first_rests (op_at c a 0)) ∙ e))

-- ---- a page that a migration sets

migrated : (ys : List Move) (v : ℕ) → is_paged ys ≡ true → has_moved ys v ≡ true → is_migrated ys v ≡ true
migrated [] v p h = absurd (false≢true p)
migrated (y ∷ ys) v p h = ap (λ b. b && (list_any (λ u. u == v) y.moved || list_any (λ u. u.0 == v) y.stayed)) p
    ∙ ap (λ b. b || list_any (λ u. u.0 == v) y.stayed) h

no_look_up : (k : Known) (a v : ℕ) (w : TableRight) → is_migrated (k.moves a) v ≡ true → is_look_up k a v w ≡ false
no_look_up k a v w h = ap (λ b. not (is_sole w) && not b) h ∙ and_right (not (is_sole w)) false refl

moved_now_known : (step : MoveStep) (past : Bool) (ys : List Move) (xs : List Migrating) (x : Migrating) → past ≡ true
    → (step ≡ MoveStep.Finish → ⊥) → Among xs x → x.moved ≡ true → Mid step false past ys xs
    → is_migrated ys x.page ≡ true
moved_now_known step past ys xs x p ne i m h =
    migrated ys x.page (paged_mid step past ys xs p ne h) ((all_mid step past ys xs h).1 x i m)

-- it is no look-up that sets it
pub set_by_migration : (s : After) (o : Op) (xs : List Migrating) (step : MoveStep) (n m v from : ℕ) (f : Option Frame)
    (w : TableRight) (k : Known) (a : ℕ) → Migrates o step (k.moves a) xs
    → SetAt s o xs (Phase.Moves step n) m v w
    → is_look_up (fold known_next k (by_thread a (comes_to s o xs (Phase.Moves step n) (Kind.Set m v f w from)))) a v
    w ≡ false
set_by_migration s o xs step n m v from f w k a ok at = let x : Migrating = at.0 in
    let j : Kind = Kind.Set m v f w from in
    let l : Known = fold known_next k (by_thread a (comes_to s o xs (Phase.Moves step n) j)) in
    let y : Among xs x × (concerns s o MoveStep.SetOwnTable x ≡ true) = come_says s o xs
    (steps_from step) n MoveStep.SetOwnTable x at.1.0 in
    no_look_up l a v w (ap (is_migrated (l.moves a)) at.1.1
    ∙ moved_now_known step (is_past_commits (coming s o xs (Phase.Moves step n))) (l.moves a) xs x
    (ap is_past_commits at.1.0)
    (λ g. finish_sets_nothing s o xs n x (ap (λ step. coming s o xs (Phase.Moves step n)) (sym g) ∙ at.1.0)) y.0
    (and_parts x.moved (sets_now s (op_mirror o)) (and_parts (is_to_device o) _ y.1).1).0
    (mid s o xs step n j k a ok.0 ok.1))
