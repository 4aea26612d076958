use Rattle.std.proofs.Common.{◌≡◌, take}
use Rattle.hm_race_top.specs.Text.Table.Columns.{longest}
use Rattle.hm_race_top.proofs.text.table.columns.longest.Given as goal

-- that of the rows so far
abbrev pub invariant-loop-row : goal.invariant-loop-row
invariant-loop-row l = l.longest ≡ longest (take l.row-index l.rows)
