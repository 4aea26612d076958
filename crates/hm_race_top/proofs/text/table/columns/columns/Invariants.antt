use Rattle.std.proofs.Common.{◌≡◌, not, map, filter}
use Rattle.hm_history.specs.Memory.Words.{numbers}
use Rattle.hm_race_top.specs.Text.Table.Columns.{column, is_shared}
use Rattle.hm_race_top.proofs.text.table.columns.columns.Given as goal

-- those of the positions so far
abbrev pub invariant-loop-at : goal.invariant-loop-at
invariant-loop-at l = l.columns ≡ map (column l.rows) (filter (λ at. not (is_shared l.rows at)) (numbers 0 l.at))
