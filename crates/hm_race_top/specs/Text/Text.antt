-- The text of a search: its outcomes, each with turns that lead to it, and how many states it knows.
use Rattle.std.specs.Prelude.{ℕ, ◌+◌, ◌-◌, Bool, if◌then◌else◌, List, [], ◌∷◌, ◌++◌, fold, codes, length, replicate}
use Rattle.std.specs.List.{flat_map, list_any}
use Rattle.std.specs.Str.{bytes_eq}
use Rattle.std.specs.Fmt.{decimal}
use Rattle.hm_base.specs.declared.ops.ScheduleLine.{ScheduleLine}
use Rattle.hm_history.specs.declared.Kind.{Kind}
use Rattle.hm_script.specs.Spelling.{line, schedule_words}
use Rattle.hm_race_lines.specs.Answers.{answer_lines}
use Rattle.hm_race_top.specs.Text.Schedule.{packed}
use Rattle.hm_race_top.specs.declared.text.block.OutcomeBlock.{OutcomeBlock}
use Rattle.hm_search.specs.declared.search.End.{End}

-- a text, and spaces up to this width
abbrev pub padded : ℕ → List ℕ → List ℕ
padded width text = text ++ replicate (width - length text) 32

-- the answers of the actors at the end of a race, and turns that lead there
pub record Way : Type 0 where
  pub answers : List (List Kind)
  pub turns : List ℕ

-- the block of a way, whose answers are written as lines
abbrev pub block_of : Way → OutcomeBlock
block_of w = record { lines = answer_lines w.answers; turns = w.turns }

-- some block has these lines
abbrev pub has_lines : List ℕ → List OutcomeBlock → Bool
has_lines lines bs = list_any (λ b. bytes_eq b.lines lines) bs

-- with one more, unless its lines are there already
abbrev pub with_block : List OutcomeBlock → OutcomeBlock → List OutcomeBlock
with_block bs b = if has_lines b.lines bs then bs else bs ++ b ∷ []

-- of these ways the first to each outcome
abbrev pub blocks_of : List Way → List OutcomeBlock
blocks_of ws = fold (λ bs w. with_block bs (block_of w)) [] ws

-- the lines of a schedule
abbrev pub lines_text : List ScheduleLine → List ℕ
lines_text ls = flat_map (λ l. line (schedule_words l)) ls

-- turns as they stand in an outcome: lines that a script's schedule may end with
abbrev pub turns_text : List ℕ → List ℕ
turns_text turns = lines_text (packed turns)

-- the line over an outcome, with its number
abbrev pub outcome_line : ℕ → List ℕ
outcome_line n = line (codes "outcome" ∷ decimal n ∷ [])

-- an outcome: its number, the answers, and turns that lead to it
abbrev pub block_text : ℕ → OutcomeBlock → List ℕ
block_text n b = outcome_line n ++ (b.lines ++ turns_text b.turns)

-- the blocks, numbered from one on
abbrev pub blocks_text : ℕ → List OutcomeBlock → List ℕ
blocks_text n [] = []
blocks_text n (b ∷ bs) = block_text n b ++ blocks_text (n + 1) bs

-- how much of a race is known: all states to which it can come, or some of them
abbrev pub end_word : End → List ℕ
end_word End.Whole = codes "whole"
end_word End.Cut = codes "cut"
end_word End.Reached = codes "stopped"

-- the last line: how many states are known, and whether these are all
abbrev pub states_line : ℕ → End → List ℕ
states_line states end = line (codes "states" ∷ decimal states ∷ end_word end ∷ [])

-- all outcomes, and the last line
unfoldable pub outcomes_text : List OutcomeBlock → ℕ → End → List ℕ
outcomes_text bs states end = blocks_text 1 bs ++ states_line states end
