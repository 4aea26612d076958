use Rattle.std.proofs.Common.{◌≡◌, map, filter}
use Rattle.hm_history.specs.Memory.Words.{numbers}
use Rattle.hm_race_top.specs.Text.Table.Columns.{first_answer, is_shared}
use Rattle.hm_race_top.proofs.text.table.columns.shared.Given as goal

-- those of the positions so far
abbrev pub invariant-loop-at : goal.invariant-loop-at
invariant-loop-at l = l.answers ≡ map (first_answer l.rows) (filter (is_shared l.rows) (numbers 0 l.at))
