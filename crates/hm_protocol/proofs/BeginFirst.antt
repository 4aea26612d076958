-- No legal history breaks `begin-first`: a look-up that has begun and has not walked is under way.
use Rattle.std.proofs.Common.{refl, ap, sym, subst, ◌∙◌, inl, inr}
use Rattle.std.proofs.lemmas.Bool.{false≢true, and_parts, and_right, eqb-true}
use Rattle.std.specs.Prelude.{◌≡◌, ℕ, Bool, true, false, ◌&&◌, ◌==◌, ◌⊎◌, if◌then◌else◌, Option, Some, None, List, []}
use Rattle.std.specs.Prelude.{◌∷◌, ◌++◌, fold}
use Rattle.hm_base.specs.Program.{Program}
use Rattle.hm_base.specs.declared.Frame.{Frame}
use Rattle.hm_base.specs.declared.ops.Op.{Op}
use Rattle.hm_history.specs.Memory.After.{After}
use Rattle.hm_history.specs.Kernel.Operation.{op_mirror}
use Rattle.hm_history.specs.Kernel.Stacks.{stack_after}
use Rattle.hm_history.specs.Kernel.Going.{State, Going, op_at, state_next, going_on, going_next}
use Rattle.hm_history.specs.Kernel.Going.{seen_at, touch_page, touch_proc}
use Rattle.hm_history.specs.declared.TableRight.{TableRight}
use Rattle.hm_history.specs.declared.Kind.{Kind}
use Rattle.hm_history.specs.declared.Entry.{Entry}
use Rattle.hm_history.specs.declared.phases.Migrating.{Migrating}
use Rattle.hm_history.specs.declared.phases.Touch.{Touch}
use Rattle.hm_history.specs.declared.phases.Phase.{Phase}
use Rattle.hm_protocol.specs.declared.events.Event.{Event}
use Rattle.hm_protocol.specs.declared.rules.Rule.{Rule}
use Rattle.hm_protocol.specs.Known.{Stage, Known, known_start, is_look_up}
use Rattle.hm_protocol.specs.Noted.{known_next, is_begun}
use Rattle.hm_protocol.specs.Tests.{begin_first}
use Rattle.hm_protocol.specs.Projection.{project, events_of, events_in, events_by, comes_to, top_of, found_at}
use Rattle.hm_protocol.specs.Laws.{IsKept}
use Rattle.hm_protocol.proofs.Fits.{Fits}
use Rattle.hm_protocol.proofs.Steps.{GoBy, Keeps, by, by_thread, never, all_fit, watched, apart}
use Rattle.hm_protocol.proofs.Stands.{walks}
use Rattle.hm_protocol.proofs.DueKinds.{may}
use Rattle.hm_laws.proofs.Histories.Short.{going_is}
use Rattle.hm_protocol.proofs.Entries.{nothing_comes, events_are, known_after, each_actor}
use Rattle.hm_protocol.proofs.ComesFrom.{turn_may}
use Rattle.hm_protocol.proofs.Looks.{begun_before, last_walked, ends_walk, goes_on, sets_after, begins_now}

-- ---- an actor after its entry

-- the mirror of an operation
abbrev pub mirror_of : Option Op → ℕ
mirror_of None = 0
mirror_of (Some o) = op_mirror o

-- a look-up under way is that of the operation in whose mirror it is
abbrev pub WalksIn : Program → ℕ → Going → ℕ → Type 0
WalksIn c b g m = (walks g.stack ≡ true) × (m ≡ mirror_of (op_at c b g.index))

still_walks : (c : Program) (a i m : ℕ) (o : Op) (xs : List Migrating) (st : List Phase) → op_at c a i ≡ Some o
    → walks st ≡ true → m ≡ op_mirror o → WalksIn c a (going_on c a i st xs) m
still_walks c a i m o xs [] e d h = absurd (false≢true d)
still_walks c a i m o xs (top ∷ below) e d h = (d, h ∙ sym (ap mirror_of e))

-- look-ups that have begun and have not walked are all such
abbrev AllBegun : (ℕ → ℕ → Type 0) → Known → Type 0
AllBegun X k = (b m : ℕ) → is_begun (k.looks b m).stage ≡ true → X b m

-- ---- an entry

walk_moves_not : (s : After) (o : Op) (xs : List Migrating) (top : Phase) (j : Kind) → ends_walk top j ≡ true
    → (ys : List Event) → comes_to s o xs top j ++ ys ≡ ys
walk_moves_not s o xs (Phase.Moves step v) j h ys = absurd (false≢true h)
walk_moves_not s o xs top j h ys = ap (λ xs. xs ++ ys) (nothing_comes s o xs top j refl)

-- its own events, if it ends a walk
walk_ends : (s u : After) (a : ℕ) (o : Op) (xs : List Migrating) (top : Phase) (below : List Phase) (after : Phase)
    (j : Kind) → ends_walk top j ≡ true → (ys : List Event)
    × ((d : Bool) × (events_by s u a o xs (top ∷ below) after j ≡ ys ++ Event.Walked (op_mirror o) d ∷ []))
walk_ends s u a o xs (Phase.Decide (Touch.Walk n since q)) below after (Kind.Failed x at len why) h =
    ([], (false, refl))
walk_ends s u a o xs (Phase.Decide (Touch.Walk n since q)) below after (Kind.Retry m) h = ([], (false, refl))
walk_ends s u a o xs (Phase.Decide (Touch.Walk n since q)) below after (Kind.Runlock p) h =
    let v : ℕ = touch_page o (Touch.Walk n since q) in
    (found_at (op_mirror o) v (s.places.place (touch_proc s o) v), (true, refl))
walk_ends s u a o xs (Phase.GiveUp (Some (Touch.Walk n since q))) below after (Kind.Failed x at len why) h =
    ([], (false, refl))
walk_ends s u a o xs top below after j h = absurd (false≢true h)

-- no event breaks the rule, and each keeps what is known
each : (X : ℕ → ℕ → Type 0) (a : ℕ) (b : Bool) (j : Kind)
    → ((m v from : ℕ) (f : Option Frame) (w : TableRight) → j ≡ Kind.Set m v f w from → X a m → ⊥)
    → ((m q : ℕ) → j ≡ Kind.Begin m q → (i n : ℕ) → (i ≡ a) → (n ≡ m) → X i n) → (k : Known) (x : Event) → Fits b j x
    → AllBegun X k → (begin_first k (by a x) ≡ false) × AllBegun X (known_next k (by a x))
each X a b j sets begins k (Event.Set m v g w) fits kn = (
  ap (λ d. is_look_up k a v w && d) (not_begun (is_begun (k.looks a m).stage) refl)
      ∙ and_right (is_look_up k a v w) false refl,
  λ i n h. kn i n (begun_before k a (Event.Set m v g w) i n refl h),
)
  where
    not_begun : (d : Bool) → is_begun (k.looks a m).stage ≡ d → is_begun (k.looks a m).stage ≡ false
    not_begun false e = e
    not_begun true e = absurd (sets m v fits.1.1.0 fits.0 w fits.1.1.1 (kn a m e))
each X a b j sets begins k (Event.Begin m q) fits kn = (refl, λ i n h. by_look ((i == a) && (n == m)) i n refl h)
  where
    by_look : (d : Bool) (i n : ℕ) → ((i == a) && (n == m)) ≡ d
        → is_begun (if d then record (k.looks a m) {
          stage = Stage.Begun;
          begun = Some k.at;
          seq = q;
          itself = false;
          set = false;
        } else k.looks i n).stage ≡ true → X i n
    by_look true i n e h = let p : ((i == a) ≡ true) × ((n == m) ≡ true) = and_parts (i == a) (n == m) e in
        begins m q fits i n (eqb-true i a p.0) (eqb-true n m p.1)
    by_look false i n e h = kn i n h
each X a b j sets begins k x fits kn = (refl, λ i n h. kn i n (begun_before k a x i n refl h))

-- what is known of a state
abbrev KnowsBegun : Program → Known → State → Type 0
KnowsBegun c k t = AllBegun (λ b m. WalksIn c b (t.going b) m) k

-- a walk that an entry ends is not one that has begun and not walked
ended : (c : Program) (t u : State) (a : ℕ) (j : Kind) (o : Op) (top : Phase) (below : List Phase) (k : Known)
    → op_at c a (t.going a).index ≡ Some o → (t.going a).stack ≡ top ∷ below → ends_walk top j ≡ true
    → is_begun ((fold known_next k (by_thread a (events_in t u a j (op_at c a (t.going a).index)))).looks a
    (op_mirror o)).stage ≡ false
ended c t u a j o top below k io is h = let g : Going = t.going a in let after : Phase = top_of (u.going a).stack in
    let z : (ys : List Event) × ((d : Bool)
    × (events_by t.after u.after a o g.pages (top ∷ below) after j ≡ ys ++ Event.Walked (op_mirror o) d ∷ [])) =
    walk_ends t.after u.after a o g.pages top below after j h in
    let same : events_in t u a j (op_at c a g.index) ≡ z.0 ++ Event.Walked (op_mirror o) z.1.0 ∷ [] =
    events_are c t u a j o top below io is ∙ (walk_moves_not t.after o g.pages top j h _ ∙ z.1.1) in
    ap (λ ss. is_begun ((fold known_next k ss).looks a (op_mirror o)).stage)
    (ap (by_thread a) same ∙ apart a z.0 (Event.Walked (op_mirror o) z.1.0 ∷ []))
    ∙ last_walked k (by_thread a z.0) a (op_mirror o) z.1.0

-- its actor after the entry
abbrev going_after : Program → State → Entry → Going
going_after c t e = going_next c t.after e.actor (t.going e.actor) e.kind

-- a look-up was under way, or begins with the entry
abbrev MayWalk : Program → State → Entry → ℕ → ℕ → Type 0
MayWalk c t e i n = WalksIn c i (t.going i) n ⊎ ((i ≡ e.actor) × ((q : ℕ) × (e.kind ≡ Kind.Begin n q)))

-- what is known of it after one entry more
keeps : (c : Program) → Keeps c begin_first (KnowsBegun c)
keeps c t e k s kn = (
  all.0,
  each_actor c t e (λ b g. (m : ℕ) → is_begun ((known_after c t e k).looks b m).stage ≡ true → WalksIn c b g m)
      (λ m h. own m h (all.1 e.actor m h)) (λ b ne m h. was b m ne (all.1 b m h)),
)
  where
    may_be : may s.turn.op s.turn.top e.kind ≡ true
    may_be = turn_may c t.after s.past e.actor s.turn.op (t.going e.actor).pages s.turn.top s.turn.below e.kind
        s.turn.known s.turn.is_due

    walking : (m : ℕ) → WalksIn c e.actor (t.going e.actor) m → walks (s.turn.top ∷ s.turn.below) ≡ true
    walking m x = ap walks (sym s.turn.is_stack) ∙ x.0

    sets : (m v from : ℕ) (f : Option Frame) (w : TableRight) → e.kind ≡ Kind.Set m v f w from
        → MayWalk c t e e.actor m → ⊥
    sets m v from f w q (inl x) = sets_after s.turn.op s.turn.top s.turn.below m v from f w
        (subst (λ j. may s.turn.op s.turn.top j ≡ true) q may_be) (walking m x)
    sets m v from f w q (inr y) = apart_kinds (sym q ∙ y.1.1)
      where
        apart_kinds : {n z : ℕ} → Kind.Set m v f w from ≡ Kind.Begin n z → ⊥
        apart_kinds h = cc

    all : GoBy begin_first k (events_of c t (state_next c t e) e) (AllBegun (MayWalk c t e))
    all = all_fit c t e begin_first (AllBegun (MayWalk c t e))
        (λ l x fits r. each (MayWalk c t e) e.actor _ e.kind sets
        (λ m q z i n h p. inr (h, (q, z ∙ ap (λ m. Kind.Begin m q) (sym p)))) l x fits r) k
        (λ b m h. inl (kn b m h))

    on : (m : ℕ) → walks (stack_after s.turn.op (s.turn.top ∷ s.turn.below) e.kind
        (seen_at t.after s.turn.op (t.going e.actor).pages s.turn.top e.kind)) ≡ true
        → m ≡ op_mirror s.turn.op → WalksIn c e.actor (going_after c t e) m
    on m d h = subst (λ g. WalksIn c e.actor g m)
        (sym (going_is c t.after e.actor (t.going e.actor) e.kind s.turn.op s.turn.top s.turn.below s.turn.is_op
        s.turn.is_stack))
        (still_walks c e.actor (t.going e.actor).index m s.turn.op _ _ s.turn.is_op d h)

    own : (m : ℕ) → is_begun ((known_after c t e k).looks e.actor m).stage ≡ true → MayWalk c t e e.actor m
        → WalksIn c e.actor (going_after c t e) m
    own m h (inr y) = let z : (m ≡ op_mirror s.turn.op)
        × (walks (stack_after s.turn.op (s.turn.top ∷ s.turn.below) (Kind.Begin m y.1.0)
        (seen_at t.after s.turn.op (t.going e.actor).pages s.turn.top e.kind)) ≡ true) =
        begins_now s.turn.op s.turn.top s.turn.below m y.1.0
        (seen_at t.after s.turn.op (t.going e.actor).pages s.turn.top e.kind)
        (subst (λ j. may s.turn.op s.turn.top j ≡ true) y.1.1 may_be) in
        on m (subst (λ j. walks (stack_after s.turn.op (s.turn.top ∷ s.turn.below) j
        (seen_at t.after s.turn.op (t.going e.actor).pages s.turn.top e.kind)) ≡ true) (sym y.1.1) z.1) z.0
    own m h (inl x) = by_end (ends_walk s.turn.top e.kind) refl
      where
        mine : m ≡ op_mirror s.turn.op
        mine = x.1 ∙ ap mirror_of s.turn.is_op

        by_end : (b : Bool) → ends_walk s.turn.top e.kind ≡ b → WalksIn c e.actor (going_after c t e) m
        by_end false i = on m (goes_on s.turn.op s.turn.top s.turn.below e.kind _ may_be i (walking m x)) mine
        by_end true i = absurd
            (false≢true (sym (ended c t (state_next c t e) e.actor e.kind s.turn.op
            s.turn.top s.turn.below k s.turn.is_op s.turn.is_stack i)
            ∙ (ap (λ n. is_begun ((known_after c t e k).looks e.actor n).stage) (sym mine) ∙ h)))

    was : (b m : ℕ) → (b ≡ e.actor → ⊥) → MayWalk c t e b m → WalksIn c b (t.going b) m
    was b m ne (inl x) = x
    was b m ne (inr y) = absurd (ne y.0)

-- no legal history breaks `begin-first`
pub begin_first_kept : IsKept Rule.BeginFirst
begin_first_kept c sc h legal = never begin_first known_start (project c h)
    (watched c begin_first (KnowsBegun c) sc (keeps c) (λ b m e. absurd (false≢true e)) h legal).0
