-- A legal history, step by step: what holds of what is known and of the state, as long as each entry's events keep it.
use Rattle.std.proofs.Common.{refl, ap, sym, subst, ◌∙◌, append_assoc}
use Rattle.std.proofs.lemmas.Bool.{true≢false}
use Rattle.std.specs.Prelude.{◌≡◌, ℕ, Bool, true, false, ◌||◌, Option, Some, None, is_some, ⊤, IsTrue, List, [], ◌∷◌, ◌++◌, fold, map}
use Rattle.hm_base.specs.Program.{Program, IsScript}
use Rattle.hm_base.specs.declared.ops.Op.{Op}
use Rattle.hm_history.specs.Memory.Plain.{mirror_owner}
use Rattle.hm_history.specs.Memory.Places.{places_accept}
use Rattle.hm_history.specs.Memory.Sequences.{sequences_accept}
use Rattle.hm_history.specs.Memory.After.{after}
use Rattle.hm_history.specs.Kernel.Going.{State, op_at, state_start, state_next, state_of, state_of-snoc, going_next}
use Rattle.hm_history.specs.Kernel.Due.{due_in}
use Rattle.hm_history.specs.Kernel.Legal.{Legal, LegalFrom, MayFollow}
use Rattle.hm_history.specs.declared.Progress.{Progress}
use Rattle.hm_history.specs.declared.Kind.{Kind}
use Rattle.hm_history.specs.declared.Entry.{Entry}
use Rattle.hm_laws.specs.Past.{Past, past_start, past_next}
use Rattle.hm_laws.specs.Stands.{Standing}
use Rattle.hm_laws.proofs.Histories.Sound.{Small, Turn, small, turn, turn_of, at_start, after_is}
use Rattle.hm_protocol.specs.declared.events.Event.{Event}
use Rattle.hm_protocol.specs.declared.events.Traced.{Traced}
use Rattle.hm_protocol.specs.Known.{Known, known_start}
use Rattle.hm_protocol.specs.Noted.{known_next}
use Rattle.hm_protocol.specs.Rules.{first_wrong}
use Rattle.hm_protocol.specs.Projection.{project, events_of, events_in, traced_next}
use Rattle.hm_protocol.proofs.Fits.{Fits, AllFit, in_fits}

-- ---- events

-- an event of a thread
abbrev pub by : ℕ → Event → Traced
by a x = record { thread = a; event = x }

-- events of one thread
abbrev pub by_thread : ℕ → List Event → List Traced
by_thread a xs = map (by a) xs

-- none of these events fails the test
abbrev pub Calm : (Known → Traced → Bool) → Known → List Traced → Type 0
Calm test k [] = ⊤
Calm test k (s ∷ ss) = (test k s ≡ false) × Calm test (known_next k s) ss

-- they go by: none fails the test, and then that is known
abbrev pub GoBy : (Known → Traced → Bool) → Known → List Traced → (Known → Type 0) → Type 0
GoBy test k ss Rel = Calm test k ss × Rel (fold known_next k ss)

pub never : (test : Known → Traced → Bool) (k : Known) (ss : List Traced) → Calm test k ss → first_wrong test k ss ≡ None
never test k [] h = refl
never test k (s ∷ ss) h =
    ap (λ b. elim b as (λ b. Option ℕ) [ true ↦ Some k.at | false ↦ first_wrong test (known_next k s) ss ]) h.0
    ∙ never test (known_next k s) ss h.1

or_left : (b d : Bool) → (b || d) ≡ false → b ≡ false
or_left false d h = refl
or_left true d h = h

or_right : (b d : Bool) → (b || d) ≡ false → d ≡ false
or_right false d h = h
or_right true d h = absurd (true≢false h)

-- events that fail none of two tests
pub calm_left : (test also : Known → Traced → Bool) (k : Known) (ss : List Traced) → Calm (λ k s. test k s || also k s) k ss
    → Calm test k ss
calm_left test also k [] h = tt
calm_left test also k (s ∷ ss) h = (or_left (test k s) (also k s) h.0, calm_left test also (known_next k s) ss h.1)

pub calm_right : (test also : Known → Traced → Bool) (k : Known) (ss : List Traced) → Calm (λ k s. test k s || also k s) k ss
    → Calm also k ss
calm_right test also k [] h = tt
calm_right test also k (s ∷ ss) h = (or_right (test k s) (also k s) h.0, calm_right test also (known_next k s) ss h.1)

pub and_then : (test : Known → Traced → Bool) (R Q : Known → Type 0) (k : Known) (xs ys : List Traced) → GoBy test k xs R
    → ((l : Known) → R l → GoBy test l ys Q) → GoBy test k (xs ++ ys) Q
and_then test R Q k [] ys g h = h k g.1
and_then test R Q k (x ∷ xs) ys g h = let y : GoBy test (known_next k x) (xs ++ ys) Q =
    and_then test R Q (known_next k x) xs ys (g.0.1, g.1) h in
    ((g.0.0, y.0), y.1)

pub apart : (a : ℕ) (xs ys : List Event) → by_thread a (xs ++ ys) ≡ by_thread a xs ++ by_thread a ys
apart a [] ys = refl
apart a (x ∷ xs) ys = ap (λ ss. by a x ∷ ss) (apart a xs ys)

-- events of an entry, and then more of them
pub and_more : (test : Known → Traced → Bool) (R Q : Known → Type 0) (k : Known) (a : ℕ) (xs ys : List Event)
    → GoBy test k (by_thread a xs) R → ((l : Known) → R l → GoBy test l (by_thread a ys) Q)
    → GoBy test k (by_thread a (xs ++ ys)) Q
and_more test R Q k a xs ys g h =
    subst (λ ss. GoBy test k ss Q) (sym (apart a xs ys)) (and_then test R Q k (by_thread a xs) (by_thread a ys) g h)

-- each event that fits an entry keeps what is known
pub through : (test : Known → Traced → Bool) (R : Known → Type 0) (b : Bool) (j : Kind) (a : ℕ)
    → ((k : Known) (x : Event) → Fits b j x → R k → (test k (by a x) ≡ false) × R (known_next k (by a x)))
    → (xs : List Event) → AllFit b j xs → (k : Known) → R k → GoBy test k (by_thread a xs) R
through test R b j a each [] h k g = (tt, g)
through test R b j a each (x ∷ xs) h k g = let one : (test k (by a x) ≡ false) × R (known_next k (by a x)) = each k x h.0 g in
    let more : GoBy test (known_next k (by a x)) (by_thread a xs) R = through test R b j a each xs h.1 (known_next k (by a x)) one.1 in
    ((one.0, more.0), more.1)

-- ---- entries

-- an entry of a legal history: what is known before it and after it of the state, and of its actor
pub record Step (c : Program) (t : State) (e : Entry) : Type 0 where
  pub past : Past
  pub now : Standing c t past
  pub next : Standing c (state_next c t e) (past_next past t.after.length e.actor e.kind)
  pub turn : Turn c t.after past e.actor e.kind (t.going e.actor) (going_next c t.after e.actor (t.going e.actor) e.kind)
  pub places : IsTrue (places_accept c (mirror_owner t.after.plain) t.after.places e.actor e.kind)
  pub sequences : IsTrue (sequences_accept t.after.sequences e.actor e.kind)

step_of : (c : Program) (h : List Entry) (t : State) (e : Entry) (p : Past) → Small c → state_of c h ≡ t → Standing c t p
    → MayFollow c h e → Step c t e
step_of c h t e p sm q st m =
    let is_due : (due_in c t e.actor ≡ Progress.Did e) = subst (λ t. due_in c t e.actor ≡ Progress.Did e) q m.is_due in
    let same : (after h ≡ t.after) = sym (after_is c h) ∙ ap (λ t. t.after) q in
    record {
      past = p;
      now = st;
      next = turn c t p e sm st is_due;
      turn = turn_of c t p e sm st is_due;
      places = subst (λ s. IsTrue (places_accept c (mirror_owner s.plain) s.places e.actor e.kind)) same m.rules.places;
      sequences = subst (λ s. IsTrue (sequences_accept s.sequences e.actor e.kind)) same m.rules.sequences;
    }

-- the events of the entries that follow a state
abbrev rest : Program → State → List Entry → List Traced
rest c t [] = []
rest c t (e ∷ es) = events_of c t (state_next c t e) e ++ rest c (state_next c t e) es

nothing_after : (xs : List Traced) → xs ≡ xs ++ []
nothing_after [] = refl
nothing_after (x ∷ xs) = ap (λ ys. x ∷ ys) (nothing_after xs)

project_is : (c : Program) (x : State × List Traced) (h : List Entry) → (fold (traced_next c) x h).1 ≡ x.1 ++ rest c x.0 h
project_is c x [] = nothing_after x.1
project_is c x (e ∷ es) = project_is c (traced_next c x e) es
    ∙ append_assoc x.1 (events_of c x.0 (state_next c x.0 e) e) (rest c (state_next c x.0 e) es)

-- events that fit an entry, of which each keeps what is known
pub all_fit : (c : Program) (t : State) (e : Entry) (test : Known → Traced → Bool) (R : Known → Type 0)
    → ((k : Known) (x : Event) → Fits (is_some ((state_next c t e).after.locks.map e.actor)) e.kind x → R k
    → (test k (by e.actor x) ≡ false) × R (known_next k (by e.actor x)))
    → (k : Known) → R k → GoBy test k (events_of c t (state_next c t e) e) R
all_fit c t e test R each k g = let o : Option Op = op_at c e.actor (t.going e.actor).index in
    through test R (is_some ((state_next c t e).after.locks.map e.actor)) e.kind e.actor each
    (events_in t (state_next c t e) e.actor e.kind o) (in_fits t (state_next c t e) e.actor e.kind o) k g

-- what is kept by each entry: its events do not fail the test, and what was known of the state before it is known after
abbrev pub Keeps : Program → (Known → Traced → Bool) → (Known → State → Type 0) → Type 0
Keeps c test R = (t : State) (e : Entry) (k : Known) → Step c t e → R k t
    → GoBy test k (events_of c t (state_next c t e) e) (λ l. R l (state_next c t e))

history : (c : Program) (test : Known → Traced → Bool) (R : Known → State → Type 0) → Small c → Keeps c test R
    → (h es : List Entry) (t : State) (k : Known) (p : Past) → state_of c h ≡ t → Standing c t p → LegalFrom c h es → R k t
    → GoBy test k (rest c t es) (λ l. (u : State) × R l u)
history c test R sm keeps h [] t k p q st l g = (tt, (t, g))
history c test R sm keeps h (e ∷ es) t k p q st l g =
    let s : Step c t e = step_of c h t e p sm q st l.0 in
    and_then test (λ l. R l (state_next c t e)) (λ l. (u : State) × R l u) k (events_of c t (state_next c t e) e)
    (rest c (state_next c t e) es) (keeps t e k s g)
    (λ n m. history c test R sm keeps (h ++ e ∷ []) es (state_next c t e) n (past_next s.past t.after.length e.actor e.kind)
    (state_of-snoc c h e ∙ ap (λ t. state_next c t e) q) s.next l.1 m)

-- so it is by all entries of a legal history
pub watched : (c : Program) (test : Known → Traced → Bool) (R : Known → State → Type 0) → IsScript c → Keeps c test R
    → R known_start (state_start c) → (h : List Entry) → Legal c h
    → GoBy test known_start (project c h) (λ l. (u : State) × R l u)
watched c test R sc keeps start h legal =
    subst (λ ss. GoBy test known_start ss (λ l. (u : State) × R l u)) (sym (project_is c (state_start c, []) h))
    (history c test R (small c sc) keeps [] h (state_start c) known_start past_start refl (at_start c (small c sc)) legal start)
