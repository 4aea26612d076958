-- What is asked of a noted sequence stays told by small ones.
use Rattle.std.proofs.Common.{◌≡◌, ℕ, ◌<◌, ◌≤◌, ◌⊎◌, inl, inr, Bool, true, false, ◌==◌, if◌then◌else◌, Option, Some, None, List, [], ◌∷◌, refl, sym, ap, ◌∙◌, subst, arith}
use Rattle.std.specs.Prelude.{⊤}
use Rattle.std.proofs.lemmas.Bool.Decides.{nat_tests}
use Rattle.std.proofs.lemmas.Bool.{cases_eq}
use Rattle.hm_history.specs.Memory.Words.{with_at}
use Rattle.hm_history.specs.Memory.Sequences.{Sequences, Interval, Stage, RemoveDeferred, Out, is_odd, interval_seq, interval_proc, is_last_end, applied, with_seq, with_stage, sequences_next}
use Rattle.hm_history.specs.declared.Kind.{Kind}
use Rattle.hm_history.specs.declared.phases.Touch.{Touch}
use Rattle.hm_history.specs.declared.phases.Touch.TheVariants.{Cpu, Walk, Sole}
use Rattle.hm_history.specs.declared.phases.Phase.{Phase}
use Rattle.hm_laws.specs.Sound.{SequenceRules}
use Rattle.hm_race_laws.specs.Numbers.{small, small_of, small_interval, small_sequences, small_noted, small_phase, small_stack, small_kind}
use Rattle.hm_race_laws.proofs.SmallWords.{tells}
use Rattle.hm_race_laws.proofs.SmallSequences.{next_small}
use Rattle.hm_race_laws.proofs.SmallDues.{noted_same}
use Rattle.hm_race_laws.proofs.SmallStacks.{KeptTouch, KeptPhase, KeptStack}
use Rattle.hm_history.proofs.Updates.{other_at, here_at}
use Rattle.hm_history.proofs.Intervals.{settled_seq}

-- a noted sequence is below that of its mirror's process
pub record NotedOk (s : Sequences) (m q : ℕ) : Type 0 where
  pub interval : Interval
  pub is : s.interval m ≡ Some interval
  pub below : q < s.seq interval.proc

abbrev pub NotedTouch : Sequences → ℕ → Touch → Type 0
NotedTouch s m (Walk k at q) = NotedOk s m q
NotedTouch s m touch = ⊤

abbrev pub NotedOption : Sequences → ℕ → Option Touch → Type 0
NotedOption s m None = ⊤
NotedOption s m (Some touch) = NotedTouch s m touch

abbrev pub NotedPhase : Sequences → ℕ → Phase → Type 0
NotedPhase s m (Phase.Begun k at q) = NotedOk s m q
NotedPhase s m (Phase.Decide touch) = NotedTouch s m touch
NotedPhase s m (Phase.Noted k at q x) = NotedOk s m q
NotedPhase s m (Phase.Taken touch g x) = NotedTouch s m touch
NotedPhase s m (Phase.Armed touch g x) = NotedTouch s m touch
NotedPhase s m (Phase.GiveUp touch) = NotedOption s m touch
NotedPhase s m x = ⊤

abbrev pub NotedStack : Sequences → ℕ → List Phase → Type 0
NotedStack s m [] = ⊤
NotedStack s m (x ∷ l) = NotedPhase s m x × NotedStack s m l

-- a mirror that comes was not there
abbrev pub Newcomer : Sequences → Kind → Type 0
Newcomer s (Kind.Attached m d p r q) = s.interval m ≡ None
Newcomer s k = ⊤

abbrev seq_in : Option Interval → ℕ
seq_in z = elim z [ None ↦ 0 | Some x ↦ x.seq ]

at_same : (i : ℕ → Option Interval) (n m : ℕ) (x : Option Interval) → (n ≡ m → ⊥) → with_at i n x m ≡ i m
at_same i n m x ne = other_at i n m x (λ e. ne (sym e))

not_itself : (q n : ℕ) → q < n → (n == q) ≡ false
not_itself q n l = grind (arith, nat_tests)

ended_seq : (b : Bool) (p : ℕ) (z : Option Interval) → seq_in (if b then applied p z else z) ≡ seq_in z
ended_seq true p z = settled_seq p z
ended_seq false p z = refl

standing_seq : (t : Stage) (i : ℕ → Option Interval) (n m : ℕ) → seq_in (with_at i n (with_stage t (i n)) m) ≡ seq_in (i m)
standing_seq t i n m = by (cases_eq m n)
  where
    of : (z : Option Interval) → seq_in (with_stage t z) ≡ seq_in z
    of None = refl
    of (Some x) = refl

    by : (m ≡ n) ⊎ (m ≡ n → ⊥) → seq_in (with_at i n (with_stage t (i n)) m) ≡ seq_in (i m)
    by (inl e) = ap (λ k. seq_in (with_at i k (with_stage t (i k)) m)) (sym e) ∙ (ap seq_in (here_at i m (with_stage t (i m))) ∙ of (i m))
    by (inr ne) = ap seq_in (other_at i n m (with_stage t (i n)) ne)

-- a telling leaves no look-up as it was
told_off : (s : Sequences) (n m q : ℕ) → SequenceRules s → NotedOk s m q →
    (seq_in (with_at s.interval n (with_seq (s.seq (interval_proc s n)) (s.interval n)) m) == q) ≡ (seq_in (with_at (λ k. small_interval s.seq (s.interval k)) n (with_seq (small (s.seq (interval_proc (small_sequences s) n))) (small_interval s.seq (s.interval n))) m) == small_noted s m q)
told_off s n m q so ok = by (cases_eq m n)
  where
    low : small_noted s m q ≡ small_noted s m q
    low = refl

    here : (z : Option Interval) → z ≡ Some ok.interval → (seq_in (with_seq (s.seq (elim z as (λ y. ℕ) [ None ↦ 0 | Some x ↦ x.proc ])) z) == q) ≡ false
    here z e = subst (λ y. (seq_in (with_seq (s.seq (elim y as (λ w. ℕ) [ None ↦ 0 | Some x ↦ x.proc ])) y) == q) ≡ false) (sym e) (not_itself q (s.seq ok.interval.proc) ok.below)

    five : (d : Bool) → ((if d then 3 else 2) == 5) ≡ false
    five true = refl
    five false = refl

    one : (d : Bool) → ((if d then 3 else 2) == 1) ≡ false
    one true = refl
    one false = refl

    noted : (x : Interval) → x.seq ≤ s.seq x.proc → q < s.seq x.proc → (b : Bool) → (x.seq == q) ≡ b → (small (s.seq x.proc) == (if b then small_of (x.seq == s.seq x.proc) else 5)) ≡ false
    noted x le l false e = five (is_odd (s.seq x.proc))
    noted x le l true e = ap (λ b. small (s.seq x.proc) == small_of b) no ∙ one (is_odd (s.seq x.proc))
      where
        no : (x.seq == s.seq x.proc) ≡ false
        no = grind (arith, nat_tests)

    there : (z : Option Interval) → z ≡ Some ok.interval → (seq_in (with_seq (small (s.seq (elim (small_interval s.seq z) as (λ y. ℕ) [ None ↦ 0 | Some x ↦ x.proc ]))) (small_interval s.seq z)) == (if seq_in z == q then seq_in (small_interval s.seq z) else 5)) ≡ false
    there z e = subst (λ y. (seq_in (with_seq (small (s.seq (elim (small_interval s.seq y) as (λ w. ℕ) [ None ↦ 0 | Some x ↦ x.proc ]))) (small_interval s.seq y)) == (if seq_in y == q then seq_in (small_interval s.seq y) else 5)) ≡ false) (sym e) (noted ok.interval (so.not_above m ok.interval ok.is) ok.below (ok.interval.seq == q) refl)

    by : (m ≡ n) ⊎ (m ≡ n → ⊥) → (seq_in (with_at s.interval n (with_seq (s.seq (interval_proc s n)) (s.interval n)) m) == q) ≡ (seq_in (with_at (λ k. small_interval s.seq (s.interval k)) n (with_seq (small (s.seq (interval_proc (small_sequences s) n))) (small_interval s.seq (s.interval n))) m) == small_noted s m q)
    by (inl e) = subst (λ k. (seq_in (with_at s.interval k (with_seq (s.seq (interval_proc s k)) (s.interval k)) m) == q) ≡ (seq_in (with_at (λ j. small_interval s.seq (s.interval j)) k (with_seq (small (s.seq (interval_proc (small_sequences s) k))) (small_interval s.seq (s.interval k))) m) == small_noted s m q)) e
        (ap (λ z. seq_in z == q) (here_at s.interval m (with_seq (s.seq (interval_proc s m)) (s.interval m))) ∙ (here (s.interval m) ok.is ∙ (sym (there (s.interval m) ok.is) ∙ ap (λ z. seq_in z == small_noted s m q) (sym (here_at (λ j. small_interval s.seq (s.interval j)) m (with_seq (small (s.seq (interval_proc (small_sequences s) m))) (small_interval s.seq (s.interval m))))))))
    by (inr ne) = ap (λ z. seq_in z == q) (other_at s.interval n m (with_seq (s.seq (interval_proc s n)) (s.interval n)) ne) ∙ (noted_same s m q ∙ ap (λ z. seq_in z == small_noted s m q) (sym (other_at (λ k. small_interval s.seq (s.interval k)) n m (with_seq (small (s.seq (interval_proc (small_sequences s) n))) (small_interval s.seq (s.interval n))) ne)))

asked_same : (s : Sequences) (a : ℕ) (k : Kind) (m q : ℕ) → SequenceRules s → Newcomer s k → NotedOk s m q → (interval_seq (sequences_next s a k) m == q) ≡ (interval_seq (sequences_next (small_sequences s) a (small_kind k)) m == small_noted s m q)
asked_same s a (Kind.Told n r w) m q so new ok = told_off s n m q so ok
asked_same s a (Kind.End p r w) m q so new ok = ap (λ z. z == q) (ended_seq (is_last_end s p) p (s.interval m)) ∙ (noted_same s m q ∙ ap (λ z. z == small_noted s m q) (sym (ended_seq (is_last_end (small_sequences s) p) p (small_interval s.seq (s.interval m)))))
asked_same s a (Kind.Attached n d p r w) m q so new ok = ap (λ z. seq_in z == q) (at_same s.interval n m _ apart) ∙ (noted_same s m q ∙ ap (λ z. seq_in z == small_noted s m q) (sym (at_same (λ k. small_interval s.seq (s.interval k)) n m _ apart)))
  where
    some_none : (z : Option Interval) (x : Interval) → z ≡ Some x → z ≡ None → ⊥
    some_none z x e d = cc

    apart : n ≡ m → ⊥
    apart e = some_none (s.interval m) ok.interval ok.is (subst (λ k. s.interval k ≡ None) e new)
asked_same s a (Kind.Detaching n w) m q so new ok = ap (λ z. z == q) (standing_seq RemoveDeferred s.interval n m) ∙ (noted_same s m q ∙ ap (λ z. z == small_noted s m q) (sym (standing_seq RemoveDeferred (λ k. small_interval s.seq (s.interval k)) n m)))
asked_same s a (Kind.Detached n) m q so new ok = ap (λ z. z == q) (standing_seq Out s.interval n m) ∙ (noted_same s m q ∙ ap (λ z. z == small_noted s m q) (sym (standing_seq Out (λ k. small_interval s.seq (s.interval k)) n m)))
asked_same s a k m q so new ok = noted_same s m q

pub noted_kept : (s : Sequences) (a : ℕ) (k : Kind) (m q : ℕ) → SequenceRules s → Newcomer s k → NotedOk s m q → small_noted (sequences_next s a k) m q ≡ small_noted (sequences_next (small_sequences s) a (small_kind k)) m (small_noted s m q)
noted_kept s a k m q so new ok = ap (λ b. if b then interval_seq (small_sequences (sequences_next s a k)) m else 5) (asked_same s a k m q so new ok) ∙ ap (λ (z : Sequences). if interval_seq (sequences_next (small_sequences s) a (small_kind k)) m == small_noted s m q then interval_seq z m else 5) (next_small s a k so)

-- so stacks stay told
pub touch_kept : (s : Sequences) (a : ℕ) (k : Kind) (m : ℕ) (x : Touch) → SequenceRules s → Newcomer s k → NotedTouch s m x → KeptTouch s (sequences_next s a k) (sequences_next (small_sequences s) a (small_kind k)) m x
touch_kept s a k m (Cpu j) so new ok = refl
touch_kept s a k m (Walk j at q) so new ok = ap (λ z. Walk j at z) (noted_kept s a k m q so new ok)
touch_kept s a k m Sole so new ok = refl

pub phase_kept : (s : Sequences) (a : ℕ) (k : Kind) (m : ℕ) (x : Phase) → SequenceRules s → Newcomer s k → NotedPhase s m x → KeptPhase s (sequences_next s a k) (sequences_next (small_sequences s) a (small_kind k)) m x
phase_kept s a k m (Phase.Begun j at q) so new ok = ap (λ z. Phase.Begun j at z) (noted_kept s a k m q so new ok)
phase_kept s a k m (Phase.Decide touch) so new ok = ap Phase.Decide (touch_kept s a k m touch so new ok)
phase_kept s a k m (Phase.Noted j at q x) so new ok = ap (λ z. Phase.Noted j at z x) (noted_kept s a k m q so new ok)
phase_kept s a k m (Phase.Taken touch g x) so new ok = ap (λ z. Phase.Taken z g x) (touch_kept s a k m touch so new ok)
phase_kept s a k m (Phase.Armed touch g x) so new ok = ap (λ z. Phase.Armed z g x) (touch_kept s a k m touch so new ok)
phase_kept s a k m (Phase.GiveUp None) so new ok = refl
phase_kept s a k m (Phase.GiveUp (Some touch)) so new ok = ap (λ z. Phase.GiveUp (Some z)) (touch_kept s a k m touch so new ok)
phase_kept s a k m _ so new ok = refl

pub stack_kept : (s : Sequences) (a : ℕ) (k : Kind) (m : ℕ) (l : List Phase) → SequenceRules s → Newcomer s k → NotedStack s m l → KeptStack s (sequences_next s a k) (sequences_next (small_sequences s) a (small_kind k)) m l
stack_kept s a k m [] so new ok = refl
stack_kept s a k m (x ∷ l) so new ok = ap (λ z. z ∷ small_stack (sequences_next s a k) m l) (phase_kept s a k m x so new ok.0) ∙ ap (λ z. small_phase (sequences_next (small_sequences s) a (small_kind k)) m (small_phase s m x) ∷ z) (stack_kept s a k m l so new ok.1)

-- a look-up that begins
pub begins_well : (s : Sequences) (m q : ℕ) → SequenceRules s → (y : Interval) → s.interval m ≡ Some y → q ≡ interval_seq s m → (y.seq == s.seq y.proc) ≡ false → small_noted s m q ≡ small_noted (small_sequences s) m 1
begins_well s m q so y e eq differ = left ∙ sym right
  where
    one_of : (z : Option Interval) → z ≡ Some y → seq_in (small_interval s.seq z) ≡ 1
    one_of z h = subst (λ w. seq_in (small_interval s.seq w) ≡ 1) (sym h) (ap small_of differ)

    again : (z : Option Interval) → z ≡ Some y → seq_in (small_interval (λ p. small (s.seq p)) (small_interval s.seq z)) ≡ 1
    again z h = subst (λ w. seq_in (small_interval (λ p. small (s.seq p)) (small_interval s.seq w)) ≡ 1) (sym h) (ap small_of (tells y.seq (s.seq y.proc) (so.odd_seq m y e) ∙ differ))

    itself : (n : ℕ) → (n == n) ≡ true
    itself n = grind (arith, nat_tests)

    left : small_noted s m q ≡ 1
    left = ap (λ b. if b then interval_seq (small_sequences s) m else 5) (ap (λ n. interval_seq s m == n) eq ∙ itself (interval_seq s m)) ∙ one_of (s.interval m) e

    right : small_noted (small_sequences s) m 1 ≡ 1
    right = ap (λ n. if n == 1 then interval_seq (small_sequences (small_sequences s)) m else 5) (one_of (s.interval m) e) ∙ again (s.interval m) e
