use Rattle.std.proofs.Common.{◌≡◌, ℕ, ◌+◌, ◌<◌, slice_index}
use Rattle.hm_race_states.specs.Bytes.{bytes_in}
use Rattle.hm_flaw_states.proofs.judging.answers.has_bytes.Given as goal

abbrev pub invariant-loop-number : goal.invariant-loop-number
invariant-loop-number l =
    (k : ℕ) → k < l.number → slice_index l.bytes k ≡ bytes_in l.kept l.proc (l.addr + k)
