-- Sequences and intervals that are kept exactly, as contracts see them.
use Rattle.std.specs.Prelude.{ℕ, ◌+◌, ◌≤◌, None, slice_index_or}
use Rattle.hm_history.specs.Memory.Sequences.{Sequences}
use Rattle.hm_folds.specs.Kept.{interval_at}
use Rattle.hm_flaw_states.specs.declared.exact_seqs.ExactParts.{ExactParts}

-- the sequences of the definitions that the kept ones stand for; guards are left out
abbrev pub exact_in : ExactParts → Sequences
exact_in x = record {
  seq = λ p. slice_index_or x.seqs p 2;
  active = λ p. slice_index_or x.active p 0;
  interval = interval_at x.intervals;
  guard = λ a. None;
}

-- after n entries: each has raised a sequence by one at most, and has begun one invalidation at most
pub record IsPaced (x : ExactParts) (n : ℕ) : Type 0 where
  pub seqs : (p : ℕ) → slice_index_or x.seqs p 2 ≤ n + 2
  pub active : (p : ℕ) → slice_index_or x.active p 0 ≤ n
