use Rattle.std.proofs.Common.{◌≡◌, ℕ, ◌+◌, ◌*◌, ◌%◌, ◌<◌}
use Rattle.std.specs.Prelude.{slice_index}
use Rattle.radix_tables.proofs.levels.past_tables.Given as goal

abbrev pub invariant-loop-at : goal.invariant-loop-at
invariant-loop-at l = (n : ℕ) → l.number < n → n < l.at → slice_index l.bits (slice_index l.entries (l.table * 64 + n % 64)) ≡ 0
