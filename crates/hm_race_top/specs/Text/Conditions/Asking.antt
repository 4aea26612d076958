-- Which conditions can be asked of a script: those each of whose lines an operation of the script may end with.
use Rattle.std.specs.Prelude.{◌≡◌, ℕ, ◌+◌, Bool, not, false, Option, Some, None, List, position}
use Rattle.std.specs.List.{list_all}
use Rattle.hm_base.specs.Program.{Program}
use Rattle.hm_history.specs.declared.Entry.{Entry}
use Rattle.hm_race_lines.specs.Endings.{may_end_with}
use Rattle.hm_race_top.specs.Text.Conditions.Laws.{Ends, outcome_lines}
use Rattle.hm_race_top.specs.Text.Conditions.Meets.{has_line}
use Rattle.hm_race_top.specs.declared.text.conditions.condition.Condition.{Condition}
use Rattle.hm_race_top.specs.declared.text.conditions.condition.Literal.{Literal}
use Rattle.hm_race_top.specs.declared.text.conditions.question.Question.{Question}

-- an operation of the script may end with each of these lines
abbrev pub may_ask_all : Program → List Literal → Bool
may_ask_all c ls = list_all (λ (l : Literal). may_end_with c l.line) ls

-- and with each line of the condition
abbrev pub may_ask : Program → Condition → Bool
may_ask c k = list_all (may_ask_all c) k.body

-- the index of the first condition that has another line
abbrev pub unasked_at : Program → List Question → Option ℕ
unasked_at c qs = position (λ (q : Question). not (may_ask c q.condition)) qs

-- its number from 1, and that of its second word, where its lines begin
abbrev pub numbers_at : Option ℕ → Option (ℕ × ℕ)
numbers_at None = None
numbers_at (Some at) = Some (at + 1, 2)

-- the same of the first condition that has another line
abbrev pub unasked : Program → List Question → Option (ℕ × ℕ)
unasked c qs = numbers_at (unasked_at c qs)

-- no outcome of the race has a line that no operation of the script may end with
abbrev pub NoneHas : Program → Type 0
NoneHas c =
    (line : List ℕ) → may_end_with c line ≡ false → (es : List Entry) → Ends c es
    → has_line (outcome_lines c es) line ≡ false
