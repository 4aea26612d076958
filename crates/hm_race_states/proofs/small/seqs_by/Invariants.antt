use Rattle.std.proofs.Common.{◌≡◌, ℕ, ◌<◌, false, length, slice_index_or}
use Rattle.hm_race_states.specs.SeqBy.{seq_by}
use Rattle.hm_race_states.proofs.small.seqs_by.Given as goal

abbrev pub invariant-loop-number : goal.invariant-loop-number
invariant-loop-number l = record {
  len : length l.seqs ≡ 32;
  so_far : (p : ℕ) → p < l.number → slice_index_or l.seqs p 2 ≡ seq_by (slice_index_or l.odd p false);
}
