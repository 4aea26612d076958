use Rattle.std.proofs.Common.{◌≡◌, ◌+◌, ◌++◌, drop}
use Rattle.hm_race_top.specs.Text.Table.Text.{rows_text}
use Rattle.hm_race_top.proofs.text.table.row.add_rows.Given as goal

-- the rows so far, and those that are left, are all
abbrev pub invariant-loop-at : goal.invariant-loop-at
invariant-loop-at l =
    l.text ++ rows_text l.columns l.width (l.at + 1) (drop l.at l.rows) ≡ l.fn.text ++ rows_text l.columns l.width 1 l.rows
