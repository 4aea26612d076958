-- No legal history breaks the joint rule of stale commits, nor `compare-sequence`: each commit's look-up meets none.
use Rattle.std.proofs.Common.{refl, ap, sym, subst, ◌∙◌, inl, inr}
use Rattle.std.specs.Prelude.{◌≡◌, ℕ, ◌⊎◌, Bool, true, false, not, ◌||◌, if◌then◌else◌, Option}
use Rattle.std.specs.Prelude.{Some, None}
use Rattle.std.specs.Prelude.{is_some, option_map, find, List, [], ◌∷◌}
use Rattle.hm_base.specs.Program.{Program, IsScript}
use Rattle.hm_base.specs.declared.ops.Op.{Op}
use Rattle.hm_history.specs.Memory.After.{After}
use Rattle.hm_history.specs.Kernel.Stacks.{stack_after, after_migration}
use Rattle.hm_history.specs.Kernel.Going.{State, op_at, going_next, seen_at, recorded, state_next, state_start, coming}
use Rattle.hm_history.specs.Kernel.Going.{coming_page}
use Rattle.hm_history.specs.Kernel.Legal.{Legal}
use Rattle.hm_history.specs.declared.Kind.{Kind}
use Rattle.hm_history.specs.declared.Entry.{Entry}
use Rattle.hm_history.specs.declared.phases.Migrating.{Migrating}
use Rattle.hm_history.specs.declared.phases.Phase.{Phase}
use Rattle.hm_history.proofs.Tests.{same_some}
use Rattle.std.proofs.lemmas.Option.{none-some}
use Rattle.hm_protocol.specs.declared.events.Traced.{Traced}
use Rattle.hm_protocol.specs.declared.rules.Rule.{Rule}
use Rattle.hm_protocol.specs.declared.rules.Joint.{Joint}
use Rattle.hm_protocol.specs.Words.{is_empty}
use Rattle.hm_protocol.specs.Known.{Known, known_start}
use Rattle.hm_protocol.specs.Noted.{known_next, known}
use Rattle.hm_protocol.specs.Rules.{compare, first_commit}
use Rattle.hm_protocol.specs.Projection.{project, events_of}
use Rattle.hm_protocol.specs.Laws.{IsKept, IsJointKept}
use Rattle.hm_protocol.proofs.Steps.{Step, Calm, Keeps, watched}
use Rattle.hm_protocol.proofs.Stands.{Stand, stand, seq_of, seq_at, is_passing, is_moves, passes, passing, turns}
use Rattle.hm_protocol.proofs.Leading.{Leads, leads}
use Rattle.hm_protocol.proofs.Seeing.{Seen, nothing}
use Rattle.hm_laws.proofs.Histories.Short.{going_is}
use Rattle.hm_protocol.proofs.Entries.{each_actor, known_after, going_holds, first_rests}
use Rattle.hm_protocol.proofs.MigrationSets.{all_migrate, none_migrate}
use Rattle.hm_protocol.proofs.SeenAfter.{Held, AllHeld, Lasting, Still, Commits, seen_after}
use Rattle.hm_protocol.proofs.HeldOn.{held_on, held_new}

else_looks : (s : After) (o : Op) (xs : List Migrating) (top : Phase) (below : List Phase) (j : Kind) (q : ℕ)
    → is_moves top ≡ false → seq_at (stack_after o (top ∷ below) j (seen_at s o xs top j)) ≡ Some q
    → (seq_at (top ∷ below) ≡ Some q) ⊎ ((m : ℕ) × (j ≡ Kind.Begin m q))
else_looks s o xs top below j q none e = pick (is_passing top) refl
  where
    pick : (b : Bool) → is_passing top ≡ b
        → (seq_at (top ∷ below) ≡ Some q) ⊎ ((m : ℕ) × (j ≡ Kind.Begin m q))
    pick true p = inl (ap seq_of (passing top below p ∙ sym (passes o top below j (seen_at s o xs top j) p)) ∙ e)
    pick false p = led (stand (stack_after o (top ∷ below) j (seen_at s o xs top j)))
        (leads o top below j (seen_at s o xs top j) p none) e
      where
        led : (x : Stand) → Leads o top below j x → seq_of x ≡ Some q
            → (seq_at (top ∷ below) ≡ Some q) ⊎ ((m : ℕ) × (j ≡ Kind.Begin m q))
        led Stand.Rests l i = absurd (none-some q i)
        led (Stand.Walks z) (inl h) i = inl (ap seq_of h ∙ i)
        led (Stand.Walks z) (inr (m, h)) i = inr (m, subst (λ q. j ≡ Kind.Begin m q) (same_some (Some z) z q refl i) h)
        led (Stand.Notes z n x) (since, p, (h, k)) i = inl (ap (λ top. seq_at (top ∷ below)) h ∙ i)
        led (Stand.Moves step) l i = absurd (none-some q i)

-- an actor's look-up was under way before its entry, or begins with it
own_looks : (s : After) (o : Op) (xs : List Migrating) (top : Phase) (below : List Phase) (j : Kind) (q : ℕ)
    → seq_at (stack_after o (top ∷ below) j (seen_at s o xs top j)) ≡ Some q
    → (seq_at (top ∷ below) ≡ Some q) ⊎ ((m : ℕ) × (j ≡ Kind.Begin m q))
own_looks s o xs (Phase.Moves step n) below j q e = pick (coming_page (coming s o xs (Phase.Moves step n))) e
  where
    pick : (x : Option Migrating)
        → seq_at (after_migration step x j (seen_at s o xs (Phase.Moves step n) j)) ≡ Some q
        → (seq_of (Stand.Moves step) ≡ Some q) ⊎ ((m : ℕ) × (j ≡ Kind.Begin m q))
    pick None g = absurd (none-some q g)
    pick (Some x) g = absurd
        (none-some q (sym (ap seq_of (turns step x j (seen_at s o xs (Phase.Moves step n) j))) ∙ g))
own_looks s o xs top below j q e = else_looks s o xs top below j q refl e

-- look-ups under way after an entry
held_after : (c : Program) (t : State) (e : Entry) (k : Known) → Step c t e → Commits c k t
    → AllHeld c (known_after c t e k) (state_next c t e)
held_after c t e k s co = each_actor c t e (λ a g. (o : Op) → op_at c a g.index ≡ Some o → (q : ℕ)
    → seq_at g.stack ≡ Some q → Held (state_next c t e).after (known_after c t e k) a o q) own
    (λ a ne o i q g. held_on c t e k s se a o q i g (co.held a o i q g))
  where
    se : Seen (Still e.kind e.actor (Lasting c t)) (known_after c t e k)
    se = seen_after c t e k s co

    mine : (q : ℕ) → seq_at (stack_after s.turn.op (s.turn.top ∷ s.turn.below) e.kind
        (seen_at t.after s.turn.op (t.going e.actor).pages s.turn.top e.kind)) ≡ Some q
        → Held (state_next c t e).after (known_after c t e k) e.actor s.turn.op q
    mine q g = by_way (own_looks t.after s.turn.op (t.going e.actor).pages s.turn.top s.turn.below e.kind q g)
      where
        by_way : (seq_at (s.turn.top ∷ s.turn.below) ≡ Some q) ⊎ ((m : ℕ) × (e.kind ≡ Kind.Begin m q))
            → Held (state_next c t e).after (known_after c t e k) e.actor s.turn.op q
        by_way (inl h) = let was : seq_at (t.going e.actor).stack ≡ Some q = ap seq_at s.turn.is_stack ∙ h in
            held_on c t e k s se e.actor s.turn.op q s.turn.is_op was (co.held e.actor s.turn.op s.turn.is_op q was)
        by_way (inr (m, h)) = held_new c t e k s se m q h

    own : (o : Op) → op_at c e.actor (going_next c t.after e.actor (t.going e.actor) e.kind).index ≡ Some o → (q : ℕ)
        → seq_at (going_next c t.after e.actor (t.going e.actor) e.kind).stack ≡ Some q
        → Held (state_next c t e).after (known_after c t e k) e.actor o q
    own = subst (λ g. (o : Op) → op_at c e.actor g.index ≡ Some o → (q : ℕ) → seq_at g.stack ≡ Some q
        → Held (state_next c t e).after (known_after c t e k) e.actor o q)
        (sym (going_is c t.after e.actor (t.going e.actor) e.kind s.turn.op s.turn.top s.turn.below s.turn.is_op
        s.turn.is_stack))
        (going_holds (λ o x us. (q : ℕ) → seq_of x ≡ Some q
        → Held (state_next c t e).after (known_after c t e k) e.actor o q)
        c e.actor (t.going e.actor).index s.turn.op
        (stack_after s.turn.op (s.turn.top ∷ s.turn.below) e.kind
        (seen_at t.after s.turn.op (t.going e.actor).pages s.turn.top e.kind))
        (recorded s.turn.top (seen_at t.after s.turn.op (t.going e.actor).pages s.turn.top e.kind).page
        (t.going e.actor).pages e.kind)
        s.turn.is_op (λ o us q g. absurd (none-some q g)) mine)

calm : (k : Known) (ss : List Traced) → Calm nothing k ss
calm k [] = tt
calm k (s ∷ ss) = (refl, calm (known_next k s) ss)

keeps : (c : Program) → Keeps c nothing (Commits c)
keeps c t e k s co = let se : Seen (Still e.kind e.actor (Lasting c t)) (known_after c t e k) =
    seen_after c t e k s co in (
      calm k (events_of c t (state_next c t e) e),
      record {
        before = se.before;
        held = held_after c t e k s co;
        migrate = all_migrate c t e k s co.migrate;
        none_stale = se.none_stale;
      },
    )

at_first : (c : Program) → Commits c known_start (state_start c)
at_first c = record {
  before = tt;
  held = λ a o i q e. absurd (none-some q (sym (ap seq_of (first_rests (op_at c a 0))) ∙ e));
  migrate = none_migrate c;
  none_stale = refl;
}

none_stale_after : (c : Program) → IsScript c → (h : List Entry) → Legal c h → (known (project c h)).stale ≡ []
none_stale_after c sc h legal = (watched c nothing (Commits c) sc (keeps c) (at_first c) h legal).1.1.none_stale

-- no legal history breaks the joint rule of stale commits
pub stale_commit_kept : IsJointKept Joint.StaleCommit
stale_commit_kept c sc h legal = ap (λ xs. option_map (λ (x : ℕ × Bool). x.0) (find (λ (x : ℕ × Bool). true) xs))
    (none_stale_after c sc h legal)

-- nor `compare-sequence`
pub compare_sequence_kept : IsKept Rule.CompareSequence
compare_sequence_kept c sc h legal = let k : Known = known (project c h) in
    ap (λ o. if is_some (compare k) || is_empty k.given_up then None else o) none
    ∙ either_none (is_some (compare k) || is_empty k.given_up)
  where
    none : first_commit not (known (project c h)) ≡ None
    none = ap (λ xs. option_map (λ (x : ℕ × Bool). x.0) (find (λ (x : ℕ × Bool). not x.1) xs))
        (none_stale_after c sc h legal)

    either_none : (b : Bool) → ◌≡◌ {A = Option ℕ} (if b then None else None) None
    either_none true = refl
    either_none false = refl
