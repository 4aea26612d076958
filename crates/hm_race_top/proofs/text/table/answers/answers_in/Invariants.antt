use Rattle.std.proofs.Common.{◌≡◌, ◌++◌, length}
use Rattle.hm_race_top.specs.Text.Table.Answers.{answers}
use Rattle.hm_race_top.proofs.text.table.answers.answers_in.Given as goal

-- the answers so far, and those that are left, are all
abbrev pub invariant-loop-rest : goal.invariant-loop-rest
invariant-loop-rest l = l.row ++ answers l.rest ≡ answers l.fn.lines

abbrev pub decreases-loop-rest : goal.decreases-loop-rest
decreases-loop-rest l = length l.rest
