-- The text of what is said of conditions.
use Rattle.std.specs.Prelude.{ℕ, ◌+◌, Bool, true, false, if◌then◌else◌, Option}
use Rattle.std.specs.Prelude.{Some, None, List, [], ◌∷◌, ◌++◌, slice_get, codes}
use Rattle.std.specs.List.{flat_map}
use Rattle.hm_race_top.specs.Text.Conditions.Absent.{is_in}
use Rattle.hm_race_top.specs.Text.Conditions.Rulings.{ruling_of}
use Rattle.hm_race_top.specs.Text.Conditions.Judged.{witness}
use Rattle.hm_race_top.specs.declared.text.conditions.condition.Condition.{Condition}
use Rattle.hm_race_top.specs.declared.text.conditions.condition.Literal.{Literal}
use Rattle.hm_race_top.specs.declared.text.conditions.rulings.Ruling.{Ruling}
use Rattle.hm_race_top.specs.declared.text.conditions.question.Question.{Question}
use Rattle.hm_race_top.specs.Text.Laws.{lines_of}
use Rattle.hm_race_top.specs.Text.Text.{block_text, states_line}
use Rattle.hm_race_top.specs.declared.text.block.OutcomeBlock.{OutcomeBlock}
use Rattle.hm_search.specs.declared.search.End.{End}

-- the word of a ruling, and a space
abbrev pub ruling_word : Ruling → List ℕ
ruling_word Ruling.Holds = codes "holds "
ruling_word Ruling.Fails = codes "fails "
ruling_word Ruling.Open = codes "open "

-- the line of a condition with this text
abbrev pub question_line : List ℕ → Ruling → List ℕ
question_line text f = ruling_word f ++ (text ++ 10 ∷ [])

-- the outcome that decides a condition alone, as it stands among all outcomes, if there is one
abbrev pub witness_text : List OutcomeBlock → Option ℕ → List ℕ
witness_text bs None = []
witness_text bs (Some at) = elim (slice_get bs at) as (λ z. List ℕ) [
  | None ↦ []
  | Some b ↦ block_text (at + 1) b
]

-- the line of a literal, if none of the outcomes has it
abbrev pub absent_text : List (List ℕ) → Literal → List ℕ
absent_text outcomes l = if is_in outcomes l.line then [] else codes "in no outcome " ++ (l.line ++ 10 ∷ [])

-- those of an alternative
abbrev pub absents_text : List (List ℕ) → List Literal → List ℕ
absents_text outcomes ls = flat_map (absent_text outcomes) ls

-- those of a condition; they are told only if all outcomes are known
abbrev pub all_absents_text : List (List ℕ) → Bool → Condition → List ℕ
all_absents_text outcomes true k = flat_map (absents_text outcomes) k.body
all_absents_text outcomes false k = []

-- what is said of a condition
abbrev pub question_text : List OutcomeBlock → Bool → Question → List ℕ
question_text bs whole q =
    question_line q.text (ruling_of q.condition (lines_of bs) whole)
    ++ (all_absents_text (lines_of bs) whole q.condition ++ witness_text bs (witness q.condition (lines_of bs)))

-- what is said of each
abbrev pub questions_text : List OutcomeBlock → Bool → List Question → List ℕ
questions_text bs whole qs = flat_map (question_text bs whole) qs

-- the search knows all states
abbrev pub is_whole : End → Bool
is_whole End.Whole = true
is_whole _ = false

unfoldable pub rulings_text : List Question → List OutcomeBlock → ℕ → End → List ℕ
rulings_text qs bs states end = questions_text bs (is_whole end) qs ++ states_line states end
