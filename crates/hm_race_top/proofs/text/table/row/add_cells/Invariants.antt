use Rattle.std.proofs.Common.{◌≡◌, ◌++◌, take}
use Rattle.std.specs.List.{flat_map}
use Rattle.hm_race_top.specs.Text.Table.Answers.{answer_at}
use Rattle.hm_race_top.specs.Text.Table.Text.{cell}
use Rattle.hm_race_top.proofs.text.table.row.add_cells.Given as goal

-- the cells so far were added
abbrev pub invariant-loop-column : goal.invariant-loop-column
invariant-loop-column l =
    l.text ≡ l.fn.text ++ flat_map (λ c. cell c.width (answer_at c.at l.row)) (take l.column-index l.columns)
