use Rattle.std.proofs.Common.{◌≡◌, map, take}
use Rattle.hm_flaws.specs.Flawed.{as_moved}
use Rattle.hm_flaw_states.proofs.goings.with_moved.Given as goal

abbrev pub invariant-loop-at : goal.invariant-loop-at
invariant-loop-at l = l.moved.items ≡ map (as_moved l.page) (take l.at l.before)
