use Rattle.std.proofs.Common.{◌≡◌, ℕ, ◌<◌, false}
use Rattle.hm_flaws.specs.Flawed.{locks_held}
use Rattle.hm_flaw_states.specs.Found.{is_other}
use Rattle.hm_flaw_states.proofs.held_locks.lowest_other.Given as goal

abbrev pub invariant-loop-at : goal.invariant-loop-at
invariant-loop-at g l = (k : ℕ) → k < l.at → is_other (locks_held l.flaw (g.W.Reads.program l.world) (g.W.Reads.state l.world)) l.proc l.other k ≡ false
