use Rattle.std.proofs.Common.{◌≡◌}
use Rattle.hm_history.specs.Memory.Words.{bytes_from}
use Rattle.hm_flaw_states.specs.FrameBytes.{contents_in}
use Rattle.hm_flaw_states.proofs.frame_bytes.FrameBytes.read.Given as goal

abbrev pub invariant-loop-number : goal.invariant-loop-number
invariant-loop-number l = l.all.items ≡ bytes_from (contents_in l.self l.frame) l.from l.number
