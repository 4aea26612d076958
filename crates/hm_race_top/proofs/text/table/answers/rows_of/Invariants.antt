use Rattle.std.proofs.Common.{◌≡◌, take}
use Rattle.hm_race_top.specs.Text.Table.Answers.{rows_of}
use Rattle.hm_race_top.proofs.text.table.answers.rows_of.Given as goal

-- those of the outcomes so far
abbrev pub invariant-loop-block : goal.invariant-loop-block
invariant-loop-block l = l.rows ≡ rows_of (take l.block-index l.blocks)
