-- No legal history breaks `entry-right`: what a look-up sets for writes it has found for writes.
use Rattle.std.proofs.Common.{refl, ap, sym, subst, ◌∙◌}
use Rattle.std.specs.Prelude.{◌≡◌, ℕ, Bool, true, false, Some, ⊤, List, ◌∷◌}
use Rattle.hm_base.specs.Program.{Program}
use Rattle.hm_base.specs.declared.ops.Op.{Op}
use Rattle.hm_history.specs.Memory.After.{After}
use Rattle.hm_history.specs.Kernel.Stacks.{stack_after}
use Rattle.hm_history.specs.Kernel.Going.{Going, State, op_at, state_next, going_next, recorded, seen_at}
use Rattle.hm_history.specs.Kernel.Due.{due_phase}
use Rattle.hm_history.specs.declared.Kind.{Kind}
use Rattle.hm_history.specs.declared.phases.Migrating.{Migrating}
use Rattle.hm_history.specs.declared.phases.Touch.{Touch}
use Rattle.hm_history.specs.declared.phases.Phase.{Phase}
use Rattle.hm_history.specs.declared.phases.Next.TheVariants.{Do}
use Rattle.hm_laws.specs.Past.{Past}
use Rattle.hm_laws.specs.Facts.{facts, HoldsAll}
use Rattle.hm_protocol.specs.declared.events.Event.{Event}
use Rattle.hm_protocol.specs.declared.rules.Rule.{Rule}
use Rattle.hm_protocol.specs.Known.{Known, known_start}
use Rattle.hm_protocol.specs.Tests.{entry_right}
use Rattle.hm_protocol.specs.Projection.{project, events_of, events_in, top_of}
use Rattle.hm_protocol.specs.Laws.{IsKept}
use Rattle.hm_protocol.proofs.Leading.{notes_none}
use Rattle.hm_protocol.proofs.Stands.{stand, has_noted}
use Rattle.hm_laws.proofs.Histories.Short.{going_is}
use Rattle.hm_protocol.proofs.Entries.{each_actor, events_at, first_rests, known_after, events_are}
use Rattle.hm_protocol.proofs.ComesFrom.{turn_from}
use Rattle.hm_protocol.proofs.MigrationSets.{AllMigrate, all_migrate, none_migrate}
use Rattle.hm_protocol.proofs.FoundRights.{Right, settled, noted_all, others, right_on, at_passing, at_walk}
use Rattle.hm_protocol.proofs.WriteSets.{is_write_set, harmless, calm}
use Rattle.hm_protocol.proofs.Steps.{Calm, Keeps, by_thread, never, all_fit, watched}

-- ---- what is known after an actor's own entry

own : (c : Program) (k : Known) (s u : After) (t : Past) (a i : ℕ) (o : Op) (xs : List Migrating) (top : Phase)
    (below : List Phase)
    (after : Phase) (j : Kind) → HoldsAll s t a (facts o xs (top ∷ below)) → due_phase c s a o xs top ≡ Do j
    → Right (k.looks a) (Some o) (record { index = i; stack = top ∷ below; pages = xs })
    → Right ((noted_all k a (events_at s u a o xs (top ∷ below) after j)).looks a) (Some o) (record {
      index = i;
      stack = stack_after o (top ∷ below) j (seen_at s o xs top j);
      pages = recorded top (seen_at s o xs top j).page xs j;
    })
own c k s u t a i o xs (Phase.Decide (Touch.Walk n since q)) below after (Kind.Runlock p) known d h =
    at_walk c k s u t a i o xs xs n since q p below after known d
own c k s u t a i o xs (Phase.Guard p r met told body) below after j known d h = at_passing (k.looks a) _ i o xs _
    (Phase.Guard p r met told body) below j (seen_at s o xs (Phase.Guard p r met told body) j) refl h
own c k s u t a i o xs (Phase.Drop f) below after j known d h = at_passing (k.looks a) _ i o xs _
    (Phase.Drop f) below j (seen_at s o xs (Phase.Drop f) j) refl h
own c k s u t a i o xs (Phase.Emptying f what) below after j known d h = at_passing (k.looks a) _ i o xs _
    (Phase.Emptying f what) below j (seen_at s o xs (Phase.Emptying f what) j) refl h
own c k s u t a i o xs (Phase.Copy f g n) below after j known d h = at_passing (k.looks a) _ i o xs _
    (Phase.Copy f g n) below j (seen_at s o xs (Phase.Copy f g n) j) refl h
own c k s u t a i o xs (Phase.Copied f g) below after j known d h = at_passing (k.looks a) _ i o xs _
    (Phase.Copied f g) below j (seen_at s o xs (Phase.Copied f g) j) refl h
own c k s u t a i o xs (Phase.Finish f to) below after j known d h = at_passing (k.looks a) _ i o xs _
    (Phase.Finish f to) below j (seen_at s o xs (Phase.Finish f to) j) refl h
own c k s u t a i o xs (Phase.Settle g) below after j known d h = at_passing (k.looks a) _ i o xs _
    (Phase.Settle g) below j (seen_at s o xs (Phase.Settle g) j) refl h
own c k s u t a i o xs (Phase.Lost v g) below after j known d h = at_passing (k.looks a) _ i o xs _
    (Phase.Lost v g) below j (seen_at s o xs (Phase.Lost v g) j) refl h
own c k s u t a i o xs top below after j known d h =
    settled _ (Some o) _ (notes_none o top below j (seen_at s o xs top j) refl refl)

-- ---- an entry

-- what is known of a state
abbrev KnowsRight : Program → Known → State → Type 0
KnowsRight c k t = (b : ℕ) → Right (k.looks b) (op_at c b (t.going b).index) (t.going b)

-- what is known of it after one entry more
keeps : (c : Program) → Keeps c entry_right (λ k t. KnowsRight c k t × AllMigrate c k t)
keeps c t e k s kn = (
  by_write (is_write_set e.kind) refl,
  (
    each_actor c t e (λ b g. Right ((known_after c t e k).looks b) (op_at c b g.index) g) here
        (λ b ne. others k e.actor b (op_at c b (t.going b).index) (t.going b) ne
        (events_in t u e.actor e.kind (op_at c e.actor (t.going e.actor).index)) (kn.0 b)),
    all_migrate c t e k s kn.1,
  ),
)
  where
    u : State
    u = state_next c t e

    next : Going
    next = going_next c t.after e.actor (t.going e.actor) e.kind

    es : List Event
    es = events_at t.after u.after e.actor s.turn.op (t.going e.actor).pages (s.turn.top ∷ s.turn.below)
        (top_of (u.going e.actor).stack) e.kind

    same : events_in t u e.actor e.kind (op_at c e.actor (t.going e.actor).index) ≡ es
    same = events_are c t u e.actor e.kind s.turn.op s.turn.top s.turn.below s.turn.is_op s.turn.is_stack

    before : Right (k.looks e.actor) (Some s.turn.op)
        (record { index = (t.going e.actor).index; stack = s.turn.top ∷ s.turn.below; pages = (t.going e.actor).pages })
    before = subst (λ st. Right (k.looks e.actor) (Some s.turn.op)
        (record { index = (t.going e.actor).index; stack = st; pages = (t.going e.actor).pages })) s.turn.is_stack
        (subst (λ x. Right (k.looks e.actor) x (t.going e.actor)) s.turn.is_op (kn.0 e.actor))

    by_write : (b : Bool) → is_write_set e.kind ≡ b → Calm entry_right k (events_of c t u e)
    by_write false h = (all_fit c t e entry_right (λ l. ⊤) (λ l x fits n. harmless _ e.kind e.actor h l x fits n)
        k tt).0
    by_write true h = subst (λ es. Calm entry_right k (by_thread e.actor es)) (sym same)
        (calm c k t.after u.after e.actor (t.going e.actor).index s.turn.op (t.going e.actor).pages
        s.turn.top s.turn.below (top_of (u.going e.actor).stack) e.kind s.turn.is_due (turn_from c t e s)
        (λ step g. kn.1 e.actor s.turn.op s.turn.is_op step (ap stand s.turn.is_stack ∙ g)) before h)

    here : Right ((known_after c t e k).looks e.actor) (op_at c e.actor next.index) next
    here = subst (λ es. Right ((noted_all k e.actor es).looks e.actor) (op_at c e.actor next.index) next) (sym same)
        (subst (λ g. Right ((noted_all k e.actor es).looks e.actor) (op_at c e.actor g.index) g)
        (sym (going_is c t.after e.actor (t.going e.actor) e.kind s.turn.op s.turn.top s.turn.below s.turn.is_op
        s.turn.is_stack))
        (right_on c _ e.actor (t.going e.actor).index s.turn.op _ _ s.turn.is_op
        (own c k t.after u.after s.past e.actor (t.going e.actor).index s.turn.op (t.going e.actor).pages
        s.turn.top s.turn.below (top_of (u.going e.actor).stack) e.kind s.turn.known s.turn.is_due before)))

-- no legal history breaks `entry-right`
pub entry_right_kept : IsKept Rule.EntryRight
entry_right_kept c sc h legal = never entry_right known_start (project c h)
    (watched c entry_right (λ k t. KnowsRight c k t × AllMigrate c k t) sc (keeps c)
    (λ b. settled _ (op_at c b 0) _ (ap has_noted (first_rests (op_at c b 0))), none_migrate c) h legal).0
