-- Intervals of mirrors: their sequence, and the sequences of a state from their parts.
use Rattle.std.proofs.Common.{◌≡◌, ℕ, ◌==◌, Bool, true, false, Option, Some, None, refl}
use Rattle.std.specs.Bool.{if◌then◌else◌}
use Rattle.hm_history.specs.Memory.Sequences.{Sequences, Interval, Guarded, applied, applied_stage}

-- the sequence of an interval; 0 if there is none
abbrev pub seq_in : Option Interval → ℕ
seq_in None = 0
seq_in (Some y) = y.seq

-- what an end applies leaves the sequence
pub settled_seq : (p : ℕ) (x : Option Interval) → seq_in (applied p x) ≡ seq_in x
settled_seq p None = refl
settled_seq p (Some y) = by (y.proc == p)
  where
    by : (b : Bool) → seq_in (if b then Some (record y { stage = applied_stage y.stage }) else Some y) ≡ y.seq
    by true = refl
    by false = refl

-- the sequences that have these parts
abbrev pub made : (ℕ → ℕ) → (ℕ → ℕ) → (ℕ → Option Interval) → (ℕ → Option Guarded) → Sequences
made f g i h = record { seq = f; active = g; interval = i; guard = h }
