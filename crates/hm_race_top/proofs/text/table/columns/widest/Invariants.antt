use Rattle.std.proofs.Common.{◌≡◌, take}
use Rattle.hm_race_top.specs.Text.Table.Columns.{widest}
use Rattle.hm_race_top.proofs.text.table.columns.widest.Given as goal

-- that of the rows so far
abbrev pub invariant-loop-row : goal.invariant-loop-row
invariant-loop-row l = l.width ≡ widest (take l.row-index l.rows) l.at
