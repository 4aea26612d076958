use Rattle.std.proofs.Common.{◌≡◌, ℕ, ◌<◌, false}
use Rattle.hm_flaws.specs.Flawed.{locks_held}
use Rattle.hm_flaw_states.specs.Found.{is_writer}
use Rattle.hm_flaw_states.proofs.held_locks.writer.Given as goal

abbrev pub invariant-loop-at : goal.invariant-loop-at
invariant-loop-at g l = (k : ℕ) → k < l.at → is_writer (locks_held l.flaw (g.W.Reads.program l.world) (g.W.Reads.state l.world)) l.proc k ≡ false
