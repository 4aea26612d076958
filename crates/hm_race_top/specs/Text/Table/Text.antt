-- The text of a table: what all outcomes share, a row for each outcome, and how many states are known.
use Rattle.std.specs.Prelude.{ℕ, ◌+◌, List, [], ◌∷◌, ◌++◌, length, codes}
use Rattle.std.specs.List.{flat_map}
use Rattle.std.specs.Fmt.{decimal}
use Rattle.hm_race_top.specs.declared.text.block.OutcomeBlock.{OutcomeBlock}
use Rattle.hm_search.specs.declared.search.End.{End}
use Rattle.hm_race_top.specs.Text.Text.{padded, states_line}
use Rattle.hm_race_top.specs.declared.text.table.columns.Column.{Column}
use Rattle.hm_race_top.specs.Text.Table.Answers.{Row, answer_at, rows_of}
use Rattle.hm_race_top.specs.Text.Table.Columns.{columns, shared}

-- a cell of a row, with the bar before it
abbrev pub cell : ℕ → List ℕ → List ℕ
cell width text = codes "| " ++ (padded width text ++ 32 ∷ [])

-- the row of an outcome: its number, and its answer in each column
abbrev pub row_text : List Column → ℕ → ℕ → Row → List ℕ
row_text cs wide n row =
    cell wide (decimal n) ++ (flat_map (λ c. cell c.width (answer_at c.at row)) cs ++ (codes "|" ++ 10 ∷ []))

-- the rows, numbered from one on
abbrev pub rows_text : List Column → ℕ → ℕ → List Row → List ℕ
rows_text cs wide n [] = []
rows_text cs wide n (row ∷ rows) = row_text cs wide n row ++ rows_text cs wide (n + 1) rows

-- an answer as a line
abbrev pub answer_line : List ℕ → List ℕ
answer_line answer = answer ++ 10 ∷ []

-- what all outcomes share, and an empty line; nothing if they share nothing
abbrev pub shared_text : List (List ℕ) → List ℕ
shared_text [] = []
shared_text (x ∷ xs) = codes "all" ++ (10 ∷ (flat_map answer_line (x ∷ xs) ++ 10 ∷ []))

-- how wide the number of the last outcome is
abbrev pub number_width : List Row → ℕ
number_width rows = length (decimal (length rows))

-- the table of these answers
abbrev pub table_of : List Row → List ℕ
table_of rows = shared_text (shared rows) ++ rows_text (columns rows) (number_width rows) 1 rows

-- the table of the outcomes, and the last line
unfoldable pub table_text : List OutcomeBlock → ℕ → End → List ℕ
table_text bs states end = table_of (rows_of bs) ++ states_line states end
