use Rattle.std.proofs.Common.{◌≡◌, length}
use Rattle.hm_race_top.specs.Text.Conditions.Meets.{has_line}
use Rattle.hm_race_top.proofs.text.conditions.lines.has_line.Given as goal

-- the line is not one of those that were passed
abbrev pub invariant-loop-rest : goal.invariant-loop-rest
invariant-loop-rest l = has_line l.lines l.text ≡ has_line l.rest l.text

abbrev pub decreases-loop-rest : goal.decreases-loop-rest
decreases-loop-rest l = length l.rest
