-- What entries write of sequences that are kept exactly, and by how much they raise them.
use Rattle.std.proofs.Common.{◌≡◌, ℕ, ◌+◌, ◌-◌, ◌<◌, ◌≤◌, ◌==◌, Bool, true, false, if◌then◌else◌, Option, None, List, length, slice_set, refl, ap, ◌∙◌, arith}
use Rattle.std.proofs.lemmas.Bool.Decides.{nat_tests}
use Rattle.hm_history.specs.Memory.Words.{with_at}
use Rattle.hm_history.specs.Memory.Sequences.{Sequences, Interval, sequences_next, sequences_start}
use Rattle.hm_history.specs.declared.Kind.{Kind}
use Rattle.hm_folds.specs.declared.intervals.KeptInterval.{KeptInterval}
use Rattle.hm_folds.specs.Kept.{interval_of, interval_at}
use Rattle.hm_folds.proofs.SeqSteps.{same_state}
use Rattle.hm_folds.proofs.Writes.{written_at}
use Rattle.hm_race_states.specs.Small.{unguarded}
use Rattle.hm_flaw_states.specs.Exact.{exact_in, IsPaced}
use Rattle.hm_flaw_states.specs.declared.exact_seqs.ExactParts.{ExactParts}

-- a process's sequence and count change, and the intervals
pub process_kept : (y : ExactParts) (ys : List (Option KeptInterval)) (s : Sequences) (n p q k Q K : ℕ) (f : ℕ → Option Interval) → exact_in y ≡ s → n ≡ p → p < length y.seqs → p < length y.active
    → q ≡ Q → k ≡ K → interval_at ys ≡ f
    → exact_in (record { seqs = slice_set y.seqs n q; active = slice_set y.active n k; intervals = ys })
    ≡ record { seq = with_at s.seq p Q; active = with_at s.active p K; interval = f; guard = λ a. None }
process_kept y ys s n p q k Q K f h e ls la hq hk hf = same_state _ _
    (written_at (λ z. z) y.seqs n p q 2 Q e ls hq ∙ ap (λ (z : Sequences). with_at z.seq p Q) h)
    (written_at (λ z. z) y.active n p k 0 K e la hk ∙ ap (λ (z : Sequences). with_at z.active p K) h)
    hf
    refl

-- a mirror's interval changes
pub interval_kept : (y : ExactParts) (s : Sequences) (i m : ℕ) (z : Option KeptInterval) (w : Option Interval) → exact_in y ≡ s → i ≡ m → m < length y.intervals → interval_of z ≡ w
    → exact_in (record { seqs = y.seqs; active = y.active; intervals = slice_set y.intervals i z })
    ≡ record { seq = s.seq; active = s.active; interval = with_at s.interval m w; guard = λ a. None }
interval_kept y s i m z w h e l hw = same_state _ _
    (ap (λ (z : Sequences). z.seq) h)
    (ap (λ (z : Sequences). z.active) h)
    (written_at interval_of y.intervals i m z None w e l hw ∙ ap (λ (z : Sequences). with_at z.interval m w) h)
    refl

-- a mirror comes: its process's sequence and its interval change
pub attach_kept : (y : ExactParts) (s : Sequences) (n p q Q i m : ℕ) (z : Option KeptInterval) (w : Option Interval) → exact_in y ≡ s → n ≡ p → p < length y.seqs → q ≡ Q → i ≡ m → m < length y.intervals → interval_of z ≡ w
    → exact_in (record { seqs = slice_set y.seqs n q; active = y.active; intervals = slice_set y.intervals i z })
    ≡ record { seq = with_at s.seq p Q; active = s.active; interval = with_at s.interval m w; guard = λ a. None }
attach_kept y s n p q Q i m z w h en lp hq e l hw = same_state _ _
    (written_at (λ z. z) y.seqs n p q 2 Q en lp hq ∙ ap (λ (z : Sequences). with_at z.seq p Q) h)
    (ap (λ (z : Sequences). z.active) h)
    (written_at interval_of y.intervals i m z None w e l hw ∙ ap (λ (z : Sequences). with_at z.interval m w) h)
    refl

-- ---- by how much they rise

-- a number is changed to one that is at most one more
at_most_one : (f : ℕ → ℕ) (p n k : ℕ) → n ≤ f p + 1 → with_at f p n k ≤ f k + 1
at_most_one f p n k l = by (k == p) refl
  where
    by : (b : Bool) → (k == p) ≡ b → (if b then n else f k) ≤ f k + 1
    by true e = let same : k ≡ p = grind (arith, nat_tests) in omega (arith, l, ap f same)
    by false e = omega arith

-- and so is one that is raised only if a test passes
at_most_if : (f : ℕ → ℕ) (p k : ℕ) (b : Bool) → with_at f p (if b then f p + 1 else f p) k ≤ f k + 1
at_most_if f p k true = at_most_one f p (f p + 1) k (omega arith)
at_most_if f p k false = at_most_one f p (f p) k (omega arith)

-- no entry raises a sequence by more than one
pub seq_rises : (s : Sequences) (a : ℕ) (k : Kind) (p : ℕ) → (sequences_next s a k).seq p ≤ s.seq p + 1
seq_rises s a (Kind.Start q r n) p = at_most_if s.seq q p _
seq_rises s a (Kind.End q r n) p = at_most_if s.seq q p _
seq_rises s a (Kind.Attached m d q r n) p = at_most_if s.seq q p _
seq_rises s a k p = omega arith

-- nor begins more than one invalidation
pub active_rises : (s : Sequences) (a : ℕ) (k : Kind) (p : ℕ) → (sequences_next s a k).active p ≤ s.active p + 1
active_rises s a (Kind.Start q r n) p = at_most_one s.active q (s.active q + 1) p (omega arith)
active_rises s a (Kind.End q r n) p = at_most_one s.active q (s.active q - 1) p (omega arith)
active_rises s a k p = omega arith

pub paced_next : (x y : ExactParts) (a : ℕ) (k : Kind) (n : ℕ) → exact_in y ≡ unguarded (sequences_next (exact_in x) a k) → IsPaced x n → IsPaced y (n + 1)
paced_next x y a k n e h = record {
  seqs = λ p. omega (arith, ap (λ (s : Sequences). s.seq p) e, seq_rises (exact_in x) a k p, h.seqs p);
  active = λ p. omega (arith, ap (λ (s : Sequences). s.active p) e, active_rises (exact_in x) a k p, h.active p);
}

pub paced_more : (x : ExactParts) (n m : ℕ) → n ≤ m → IsPaced x n → IsPaced x m
paced_more x n m l h = record { seqs = λ p. omega (arith, l, h.seqs p); active = λ p. omega (arith, l, h.active p) }

-- before the first entry
pub paced_first : (x : ExactParts) → exact_in x ≡ sequences_start → IsPaced x 0
paced_first x e = record {
  seqs = λ p. omega (arith, ap (λ (s : Sequences). s.seq p) e);
  active = λ p. omega (arith, ap (λ (s : Sequences). s.active p) e);
}
