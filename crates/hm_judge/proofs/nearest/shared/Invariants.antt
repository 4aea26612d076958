use Rattle.std.proofs.Common.{◌≡◌, ◌+◌, drop}
use Rattle.hm_judge.specs.Nearest.{shared}
use Rattle.hm_judge.proofs.nearest.shared.Given as goal

-- the bytes so far are shared
abbrev pub invariant-loop-at : goal.invariant-loop-at
invariant-loop-at l = shared l.one l.other ≡ l.at + shared (drop l.at l.one) (drop l.at l.other)
