use Rattle.std.proofs.Common.{◌≡◌, false, take}
use Rattle.hm_race_top.specs.Text.Conditions.Absent.{is_in}
use Rattle.hm_race_top.specs.Text.Laws.{lines_of}
use Rattle.hm_race_top.proofs.text.conditions.absent.is_in.Given as goal

-- none of the outcomes so far has the line
abbrev pub invariant-loop-block : goal.invariant-loop-block
invariant-loop-block l = is_in (lines_of (take l.block-index l.blocks)) l.line ≡ false
