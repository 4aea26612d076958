use Rattle.std.proofs.Common.{◌≡◌, ℕ, ◌<◌, slice_index_or}
use Rattle.hm_flaw_states.proofs.same_parts.same_counts.Given as goal

abbrev pub invariant-loop-at : goal.invariant-loop-at
invariant-loop-at l = (p : ℕ) → p < l.at → slice_index_or l.one p 0 ≡ slice_index_or l.other p 0
