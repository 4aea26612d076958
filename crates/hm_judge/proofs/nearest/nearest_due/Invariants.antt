use Rattle.std.proofs.Common.{take}
use Rattle.std.specs.List.{flat_map}
use Rattle.hm_judge.specs.Nearest.{IsNearestSo, due_line}
use Rattle.hm_judge.proofs.nearest.nearest_due.Given as goal

-- the nearest of the lines so far
abbrev pub invariant-loop-progress : goal.invariant-loop-progress
invariant-loop-progress l = IsNearestSo l.line (flat_map (due_line l.at) (take l.progress-index l.standing)) l.best
