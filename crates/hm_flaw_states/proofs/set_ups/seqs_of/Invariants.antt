use Rattle.std.proofs.Common.{◌≡◌, ℕ, ◌<◌, length}
use Rattle.hm_flaw_states.specs.Owns.{seq_in}
use Rattle.hm_history.specs.Memory.Sequences.{interval_seq}
use Rattle.hm_flaw_states.specs.Exact.{exact_in}
use Rattle.hm_flaw_states.proofs.set_ups.seqs_of.Given as goal

abbrev pub invariant-loop-number : goal.invariant-loop-number
invariant-loop-number l = record {
  len : length l.all ≡ 32;
  same : (m : ℕ) → m < l.number → seq_in l.all m ≡ interval_seq (exact_in l.seqs.kept) m;
}
