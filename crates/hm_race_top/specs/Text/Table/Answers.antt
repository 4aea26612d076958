-- The answers of outcomes, each a line of their text.
use Rattle.std.specs.Prelude.{ℕ, ◌==◌, List, [], map, slice_get, unwrap_or}
use Rattle.std.specs.List.{before_first}
use Rattle.hm_race_top.specs.declared.text.block.OutcomeBlock.{OutcomeBlock}
use Rattle.hm_script.specs.Automaton.{lines}

-- the answers of one outcome
abbrev pub Row : Type 0
Row = List (List ℕ)

-- the answers in a text, each a line without its line feed
abbrev pub answers : List ℕ → Row
answers text = map (before_first (λ b. b == 10)) (lines text)

-- the answers of each outcome
abbrev pub rows_of : List OutcomeBlock → List Row
rows_of bs = map (λ b. answers b.lines) bs

-- the answer at a position, and nothing after the last
abbrev pub answer_at : ℕ → Row → List ℕ
answer_at at row = unwrap_or (slice_get row at) []
