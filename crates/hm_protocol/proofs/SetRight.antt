-- No legal history breaks `set-right`: a page that was collected for reads is not writable until all are set.
use Rattle.std.proofs.Common.{refl, sym, subst}
use Rattle.std.proofs.lemmas.Bool.{false≢true}
use Rattle.std.specs.Prelude.{◌≡◌, ℕ, ◌+◌, true, false, Option, Some, None, ⊤, List, [], ◌∷◌, fold}
use Rattle.hm_base.specs.Program.{Program}
use Rattle.hm_base.specs.declared.ops.Op.{Op}
use Rattle.hm_history.specs.Memory.Plain.{mirror_proc}
use Rattle.hm_history.specs.Memory.After.{After}
use Rattle.hm_history.specs.Kernel.Operation.{op_mirror, is_migration}
use Rattle.hm_history.specs.Kernel.Stacks.{first_phase, after_top}
use Rattle.hm_history.specs.Kernel.Going.{State, Going, op_at, first_stack, going_from, going_on, going_next}
use Rattle.hm_history.specs.Kernel.Going.{recorded, seen_at, state_start, state_next}
use Rattle.hm_history.specs.declared.Who.{Who}
use Rattle.hm_history.specs.declared.Kind.{Kind}
use Rattle.hm_history.specs.declared.Entry.{Entry}
use Rattle.hm_history.specs.declared.phases.Migrating.{Migrating}
use Rattle.hm_history.specs.declared.phases.Phase.{Phase}
use Rattle.hm_laws.specs.Past.{Past, past_next}
use Rattle.hm_laws.specs.Sound.{Sound}
use Rattle.hm_laws.specs.Allowed.{next, Allowed}
use Rattle.hm_laws.specs.Facts.{Knows, HoldsAll, facts_of}
use Rattle.hm_laws.proofs.Other.Mirrors.{who_keeps}
use Rattle.hm_protocol.specs.declared.rules.Rule.{Rule}
use Rattle.hm_protocol.specs.Known.{Known, known_start}
use Rattle.hm_protocol.specs.Noted.{known_next}
use Rattle.hm_protocol.specs.Tests.{set_right}
use Rattle.hm_protocol.specs.Projection.{project, events_in, events_of, top_of}
use Rattle.hm_protocol.specs.Laws.{IsKept}
use Rattle.hm_laws.proofs.Histories.Short.{going_is}
use Rattle.hm_protocol.proofs.Entries.{events_are, each_actor, not_home}
use Rattle.hm_protocol.proofs.Entries.{events_at}
use Rattle.hm_protocol.proofs.Steps.{GoBy, Keeps, Step, never, watched}
use Rattle.hm_protocol.proofs.MigrationViews.{View, views, views_after, CalmAt, Went, went}
use Rattle.hm_protocol.proofs.Sitting.{Sits, all_more}
use Rattle.hm_protocol.proofs.SetMoved.{SitsOf, KnowsMoves, sits_from, moves_next}
use Rattle.hm_protocol.proofs.Rights.{Right, Between, between, between_facts, frozen_pages, right_other}
use Rattle.hm_protocol.proofs.RightEvents.{right_wrong, rights_so, top_source}
use Rattle.hm_protocol.proofs.Collected.{Noted, noted_on}
use Rattle.hm_protocol.proofs.RightSet.{calm_on}

-- ---- what is noted of the pages of each actor's migration

abbrev RightsOf : After → Option Op → List Migrating → List Phase → List View → Type 0
RightsOf s None xs stack vs = ⊤
RightsOf s (Some o) xs stack vs = between stack ≡ true → Noted s o xs vs

abbrev RightsAt : After → Program → ℕ → Going → List View → Type 0
RightsAt s c a g vs = RightsOf s (op_at c a g.index) g.pages g.stack vs

abbrev KnowsRights : Program → Known → State → Type 0
KnowsRights c k t = (a : ℕ) → RightsAt t.after c a (t.going a) (views k a)

rights_from : (s : After) (c : Program) (a i : ℕ) (vs : List View) → RightsAt s c a (going_from c a i) vs
rights_from s c a i vs = by_op (op_at c a i)
  where
    first : (o : Op) → between (first_phase o ∷ []) ≡ true → false ≡ true
    first (Op.Load p at n) e = e
    first (Op.Store p at bs) e = e
    first (Op.DeviceLoad m at n) e = e
    first (Op.DeviceStore m at bs) e = e
    first (Op.Add m at k) e = e
    first (Op.Evict d) e = e
    first (Op.Remove d) e = e
    first o e = e

    by_op : (x : Option Op) → RightsOf s x [] (first_stack x) vs
    by_op None = tt
    by_op (Some o) = λ e. absurd (false≢true (first o e))

-- ---- the actor of an entry

-- where it comes to
rights_going : (s : After) (t : Past) (c : Program) (a i : ℕ) (o : Op) (xs : List Migrating) (stack : List Phase)
    (vs : List View)
    → op_at c a i ≡ Some o → Knows c s t a (going_on c a i stack xs)
    → (is_migration o ≡ true → between stack ≡ true → Noted s o xs vs) → RightsAt s c a (going_on c a i stack xs) vs
rights_going s t c a i o xs [] vs e h f = rights_from s c a (i + 1) vs
rights_going s t c a i o xs (top ∷ below) vs e h f = subst (λ x. RightsOf s x xs (top ∷ below) vs) (sym e)
    (λ b. f (between_facts s t a o xs (top ∷ below) (subst (λ x. HoldsAll s t a (facts_of x xs (top ∷ below))) e h)
    b).knows.0 b)

pub record Entered (c : Program) (t : State) (e : Entry) (vs : List View) : Type 0 where
  pub calm : CalmAt right_wrong vs (events_in t (state_next c t e) e.actor e.kind
      (op_at c e.actor (t.going e.actor).index))
  pub rights : RightsAt (next t.after e.actor e.kind) c e.actor (going_next c t.after e.actor (t.going e.actor) e.kind)
      (views_after vs (events_in t (state_next c t e) e.actor e.kind (op_at c e.actor (t.going e.actor).index)))

entered : (c : Program) (t : State) (e : Entry) → Step c t e → (vs : List View)
    → SitsOf (op_at c e.actor (t.going e.actor).index) (t.going e.actor).pages (t.going e.actor).stack vs
    → RightsAt t.after c e.actor (t.going e.actor) vs → Entered c t e vs
entered c t e s vs sits rights = record {
  calm = subst (CalmAt right_wrong vs) (sym evs) (calm_on c t.after (state_next c t e).after s.past e.actor s.turn.op
      (t.going e.actor).pages
      s.turn.top s.turn.below (top_of ((state_next c t e).going e.actor).stack) e.kind vs s.now.sound s.turn.known
      s.turn.is_due sits_here old);
  rights = subst (λ g. RightsAt (next t.after e.actor e.kind) c e.actor g
      (views_after vs (events_in t (state_next c t e) e.actor e.kind
      (op_at c e.actor (t.going e.actor).index)))) (sym goes)
      (rights_going (next t.after e.actor e.kind) (past_next s.past t.after.length e.actor e.kind) c e.actor
      (t.going e.actor).index
      s.turn.op _ _ _ s.turn.is_op
      (subst (λ g. Knows c (next t.after e.actor e.kind) (past_next s.past t.after.length e.actor e.kind) e.actor g)
      goes s.turn.knows)
      (λ m b. subst (λ es. Noted (next t.after e.actor e.kind) s.turn.op
      (recorded s.turn.top (seen_at t.after s.turn.op (t.going e.actor).pages s.turn.top e.kind).page
      (t.going e.actor).pages e.kind)
      (views_after vs es)) (sym evs)
      (noted_on c t.after (state_next c t e).after s.past e.actor s.turn.op (t.going e.actor).pages
      s.turn.top s.turn.below (top_of ((state_next c t e).going e.actor).stack) e.kind vs (not_home s.turn.op m)
      s.turn.known s.turn.is_due
      sits_here old b)));
}
  where
    goes : going_next c t.after e.actor (t.going e.actor) e.kind
        ≡ going_on c e.actor (t.going e.actor).index
        (after_top s.turn.op s.turn.top s.turn.below e.kind (seen_at t.after s.turn.op (t.going e.actor).pages
        s.turn.top e.kind))
        (recorded s.turn.top (seen_at t.after s.turn.op (t.going e.actor).pages s.turn.top e.kind).page
        (t.going e.actor).pages e.kind)
    goes = going_is c t.after e.actor (t.going e.actor) e.kind s.turn.op s.turn.top s.turn.below s.turn.is_op
        s.turn.is_stack

    evs : events_in t (state_next c t e) e.actor e.kind (op_at c e.actor (t.going e.actor).index)
        ≡ events_at t.after (state_next c t e).after e.actor s.turn.op (t.going e.actor).pages
        (s.turn.top ∷ s.turn.below)
        (top_of ((state_next c t e).going e.actor).stack) e.kind
    evs = events_are c t (state_next c t e) e.actor e.kind s.turn.op s.turn.top s.turn.below s.turn.is_op
        s.turn.is_stack

    sits_here : Sits s.turn.op (t.going e.actor).pages (s.turn.top ∷ s.turn.below) vs
    sits_here = subst (λ st. Sits s.turn.op (t.going e.actor).pages st vs) s.turn.is_stack
        (subst (λ x. SitsOf x (t.going e.actor).pages (t.going e.actor).stack vs) s.turn.is_op sits)

    old : between (s.turn.top ∷ s.turn.below) ≡ true → Noted t.after s.turn.op (t.going e.actor).pages vs
    old = subst (λ st. between st ≡ true → Noted t.after s.turn.op (t.going e.actor).pages vs) s.turn.is_stack
        (subst (λ x. RightsOf t.after x (t.going e.actor).pages (t.going e.actor).stack vs) s.turn.is_op rights)

-- ---- the others

noted_other : (c : Program) (s : After) (t : Past) (a b : ℕ) (k : Kind) (o : Op) (xs : List Migrating) (vs : List View)
    → Sound c s t → (b ≡ a → ⊥) → Allowed c s t a k → Between s t b o xs → Noted s o xs vs → Noted (next s a k) o xs vs
noted_other c s t a b k o xs vs so ne ok bt h = all_more (Right s p xs)
    (Right (next s a k) (mirror_proc (next s a k).plain (op_mirror o)) xs)
    (λ u r. subst (λ p. Right (next s a k) p xs u) (sym (who_keeps c s t a k ok (Who.Mirror (op_mirror o))
    bt.knows.1.1.0.0).1)
    (right_other c s t a b p xs so ne bt.knows.1.1.0.1 k ok (frozen_pages s t b o xs bt) u r)) (top_source vs) h
  where
    p : ℕ
    p = mirror_proc s.plain (op_mirror o)

rights_other : (c : Program) (s : After) (t : Past) (a b : ℕ) (k : Kind) (xs : List Migrating) (stack : List Phase)
    (vs : List View)
    → Sound c s t → (b ≡ a → ⊥) → Allowed c s t a k → (x : Option Op) → HoldsAll s t b (facts_of x xs stack)
    → RightsOf s x xs stack vs → RightsOf (next s a k) x xs stack vs
rights_other c s t a b k xs stack vs so ne ok None h r = tt
rights_other c s t a b k xs stack vs so ne ok (Some o) h r =
    λ e. noted_other c s t a b k o xs vs so ne ok (between_facts s t b o xs stack h e) (r e)

-- ---- an entry

keeps : (c : Program) → Keeps c set_right (λ k t. KnowsMoves c k t × KnowsRights c k t)
keeps c t e k s kn = (
  gone.0,
  (
    moves_next c t e k l s kn.0 gone.1,
    each_actor c t e (λ b g. RightsAt (state_next c t e).after c b g (views l b))
        (subst (RightsAt (state_next c t e).after c e.actor (going_next c t.after e.actor (t.going e.actor) e.kind))
        (sym gone.1.here) here.rights)
        (λ b ne. subst (RightsAt (state_next c t e).after c b (t.going b)) (sym (gone.1.there b ne))
        (rights_other c t.after s.past e.actor b e.kind (t.going b).pages (t.going b).stack (views k b) s.now.sound ne
        s.turn.allowed (op_at c b (t.going b).index) (s.now.known b) (kn.1 b))),
  ),
)
  where
    l : Known
    l = fold known_next k (events_of c t (state_next c t e) e)

    here : Entered c t e (views k e.actor)
    here = entered c t e s (views k e.actor) (kn.0 e.actor) (kn.1 e.actor)

    gone : GoBy set_right k (events_of c t (state_next c t e) e) (λ l. Went k l e.actor (views_after (views k e.actor)
        (events_in t (state_next c t e) e.actor e.kind (op_at c e.actor (t.going e.actor).index))))
    gone = went set_right right_wrong rights_so e.actor (events_in t (state_next c t e) e.actor e.kind
        (op_at c e.actor (t.going e.actor).index)) k (views k e.actor) refl here.calm

-- no legal history breaks `set-right`
pub set_right_kept : IsKept Rule.SetRight
set_right_kept c sc h legal = never set_right known_start (project c h)
    (watched c set_right (λ k t. KnowsMoves c k t × KnowsRights c k t) sc (keeps c)
    ((λ a. sits_from c a 0), (λ a. rights_from (state_start c).after c a 0 [])) h legal).0
