-- Where a search for conditions stops.
use Rattle.std.specs.Prelude.{ℕ, ◌≤◌, Bool, List, map}
use Rattle.hm_race_top.specs.Text.Conditions.Rulings.{settles}
use Rattle.hm_race_top.specs.declared.text.conditions.question.Question.{Question}
use Rattle.hm_history.specs.Memory.Words.{numbers}
use Rattle.hm_race_laws.specs.Outcomes.{Point}
use Rattle.hm_race_lines.specs.Answers.{answer_lines}

-- the outcome of a state of a race with this many actors settles the conditions
abbrev pub settled : List Question → ℕ → Point → Bool
settled qs actors x = settles qs (answer_lines (map x.answers (numbers 0 actors)))

-- conditions, and how many actors the race has
pub record GoalValue : Type 0 where
  pub questions : List Question
  pub actors : ℕ

-- a script has at most 16
abbrev pub IsGoal : GoalValue → Type 0
IsGoal g = g.actors ≤ 16
