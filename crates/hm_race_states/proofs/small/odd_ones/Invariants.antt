use Rattle.std.proofs.Common.{◌≡◌, ℕ, ◌<◌, false, length, slice_index_or}
use Rattle.hm_history.specs.Memory.Sequences.{is_odd}
use Rattle.hm_race_states.proofs.small.odd_ones.Given as goal

abbrev pub invariant-loop-number : goal.invariant-loop-number
invariant-loop-number l = record {
  len : length l.odd ≡ 32;
  so_far : (p : ℕ) → p < l.number → slice_index_or l.odd p false ≡ is_odd (slice_index_or l.seqs p 2);
}
