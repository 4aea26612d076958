-- What entries write of small sequences.
use Rattle.std.proofs.Common.{◌≡◌, ℕ, ◌<◌, Option, None, List, length, slice_set, refl, ap, ◌∙◌}
use Rattle.hm_history.specs.Memory.Words.{with_at}
use Rattle.hm_history.specs.Memory.Sequences.{Sequences, Interval}
use Rattle.hm_folds.specs.declared.intervals.KeptInterval.{KeptInterval}
use Rattle.hm_folds.specs.Kept.{interval_of, interval_at}
use Rattle.hm_folds.proofs.SeqSteps.{same_state}
use Rattle.hm_folds.proofs.Writes.{written_at}
use Rattle.hm_race_states.specs.declared.small.Between.{Between}
use Rattle.hm_race_states.specs.Small.{between_seqs}

-- a process's sequence and count change, and the intervals
pub process_kept : (y : Between) (ys : List (Option KeptInterval)) (s : Sequences) (n p q k Q K : ℕ) (f : ℕ → Option Interval) → between_seqs y ≡ s → n ≡ p → p < length y.seqs → p < length y.active
    → q ≡ Q → k ≡ K → interval_at ys ≡ f
    → between_seqs (record { seqs = slice_set y.seqs n q; active = slice_set y.active n k; intervals = ys })
    ≡ record { seq = with_at s.seq p Q; active = with_at s.active p K; interval = f; guard = λ a. None }
process_kept y ys s n p q k Q K f h e ls la hq hk hf = same_state _ _
    (written_at (λ z. z) y.seqs n p q 2 Q e ls hq ∙ ap (λ (z : Sequences). with_at z.seq p Q) h)
    (written_at (λ z. z) y.active n p k 0 K e la hk ∙ ap (λ (z : Sequences). with_at z.active p K) h)
    hf
    refl

-- a mirror's interval changes
pub interval_kept : (y : Between) (s : Sequences) (i m : ℕ) (z : Option KeptInterval) (w : Option Interval) → between_seqs y ≡ s → i ≡ m → m < length y.intervals → interval_of z ≡ w
    → between_seqs (record { seqs = y.seqs; active = y.active; intervals = slice_set y.intervals i z })
    ≡ record { seq = s.seq; active = s.active; interval = with_at s.interval m w; guard = λ a. None }
interval_kept y s i m z w h e l hw = same_state _ _
    (ap (λ (z : Sequences). z.seq) h)
    (ap (λ (z : Sequences). z.active) h)
    (written_at interval_of y.intervals i m z None w e l hw ∙ ap (λ (z : Sequences). with_at z.interval m w) h)
    refl

-- a mirror comes: its process's sequence and its interval change
pub attach_kept : (y : Between) (s : Sequences) (n p q Q i m : ℕ) (z : Option KeptInterval) (w : Option Interval) → between_seqs y ≡ s → n ≡ p → p < length y.seqs → q ≡ Q → i ≡ m → m < length y.intervals → interval_of z ≡ w
    → between_seqs (record { seqs = slice_set y.seqs n q; active = y.active; intervals = slice_set y.intervals i z })
    ≡ record { seq = with_at s.seq p Q; active = s.active; interval = with_at s.interval m w; guard = λ a. None }
attach_kept y s n p q Q i m z w h en lp hq e l hw = same_state _ _
    (written_at (λ z. z) y.seqs n p q 2 Q en lp hq ∙ ap (λ (z : Sequences). with_at z.seq p Q) h)
    (ap (λ (z : Sequences). z.active) h)
    (written_at interval_of y.intervals i m z None w e l hw ∙ ap (λ (z : Sequences). with_at z.interval m w) h)
    refl
