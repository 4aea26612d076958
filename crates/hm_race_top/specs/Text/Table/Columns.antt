-- Which answers all outcomes share, and the columns of the others.
use Rattle.std.specs.Prelude.{ℕ, Bool, not, max, List, [], ◌∷◌, length, map, filter, fold}
use Rattle.std.specs.List.{list_all}
use Rattle.std.specs.Str.{bytes_eq}
use Rattle.hm_history.specs.Memory.Words.{numbers}
use Rattle.hm_race_top.specs.declared.text.table.columns.Column.{Column}
use Rattle.hm_race_top.specs.Text.Table.Answers.{Row, answer_at}

-- how many answers an outcome has at most
abbrev pub longest : List Row → ℕ
longest rows = fold (λ n row. max n (length row)) 0 rows

-- their positions
abbrev pub positions : List Row → List ℕ
positions rows = numbers 0 (longest rows)

-- how wide the widest answer at the position is
abbrev pub widest : List Row → ℕ → ℕ
widest rows at = fold (λ n row. max n (length (answer_at at row))) 0 rows

-- the answer of the first outcome, if there is one
abbrev pub first_answer : List Row → ℕ → List ℕ
first_answer [] at = []
first_answer (row ∷ rows) at = answer_at at row

-- all outcomes have the same answer at the position
abbrev pub is_shared : List Row → ℕ → Bool
is_shared rows at = list_all (λ row. bytes_eq (answer_at at row) (first_answer rows at)) rows

-- the answers that all outcomes have at the same position
abbrev pub shared : List Row → List (List ℕ)
shared rows = map (first_answer rows) (filter (is_shared rows) (positions rows))

-- the column of a position
abbrev pub column : List Row → ℕ → Column
column rows at = record { at = at; width = widest rows at }

-- the columns: the positions at which not all outcomes have the same answer
abbrev pub columns : List Row → List Column
columns rows = map (column rows) (filter (λ at. not (is_shared rows at)) (positions rows))
