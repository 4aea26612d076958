use Rattle.std.proofs.Common.{◌≡◌, true, take}
use Rattle.std.specs.List.{list_all}
use Rattle.std.specs.Str.{bytes_eq}
use Rattle.hm_race_top.specs.Text.Table.Answers.{answer_at}
use Rattle.hm_race_top.proofs.text.table.columns.is_shared.Given as goal

-- the rows so far have the answer of the first
abbrev pub invariant-loop-row : goal.invariant-loop-row
invariant-loop-row l = list_all (λ row. bytes_eq (answer_at l.at row) l.first) (take l.row-index l.rows) ≡ true
