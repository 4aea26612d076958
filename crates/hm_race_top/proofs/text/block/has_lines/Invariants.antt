use Rattle.std.proofs.Common.{◌≡◌, false, take}
use Rattle.hm_race_top.specs.Text.Text.{has_lines}
use Rattle.hm_race_top.proofs.text.block.has_lines.Given as goal

-- no block so far has them
abbrev pub invariant-loop-block : goal.invariant-loop-block
invariant-loop-block l = has_lines l.lines (take l.block-index l.blocks) ≡ false
