-- How many states a search may know, and what is to be written of a race, by the words after the program's name.
use Rattle.std.specs.Prelude.{◌≡◌, ◌⊎◌, ℕ, Bool, true, false, ◌&&◌}
use Rattle.std.specs.Prelude.{◌||◌, if◌then◌else◌, List, [], ◌∷◌, Option, Some, None}
use Rattle.std.specs.Prelude.{Result, Ok, Err, codes, ⊤}
use Rattle.std.specs.Str.{bytes_eq}
use Rattle.hm_race_top.specs.Text.Conditions.Questions.{AreQuestions, bad_question}
use Rattle.hm_race_top.specs.declared.text.conditions.question.Question.{Question}
use Rattle.hm_edge.specs.declared.status.RaceEnd.{RaceEnd}
use Rattle.hm_edge.specs.declared.status.Status.{Status}
use Rattle.hm_script.specs.Numerals.{number}
use Rattle.hm_script.specs.declared.reason.Reason.{Reason}
use Rattle.hm_race_top.specs.declared.asked.Task.{Task}

-- ---- how many states

-- the number that a word spells, if it spells one, and the words after it
abbrev pub counted : Result ℕ Reason → List (List ℕ) → Option (ℕ × List (List ℕ))
counted (Ok most) words = Some (most, words)
counted (Err why) words = None

-- the same after `--most`
abbrev pub after_most : List (List ℕ) → Option (ℕ × List (List ℕ))
after_most [] = None
after_most (word ∷ words) = counted (number word) words

-- so of a word that spells no number: it is `--most`, or says what is to be written
abbrev pub uncounted : List ℕ → List (List ℕ) → Option (ℕ × List (List ℕ))
uncounted word words = if bytes_eq word (codes "--most") then after_most words else Some (1000000, word ∷ words)

-- the number of states, which is a million if no word says another, and the words that say what is to be written; none
-- if a number is missing
abbrev pub front : List (List ℕ) → Option (ℕ × List (List ℕ))
front [] = Some (1000000, [])
front (word ∷ words) = elim (number word) as (λ z. Option (ℕ × List (List ℕ))) [
  | Ok most ↦ Some (most, words)
  | Err why ↦ uncounted word words
]

-- ---- what is to be written

-- the word spells a number
abbrev pub is_number : Result ℕ Reason → Bool
is_number (Ok n) = true
is_number (Err why) = false

-- the only word is a number
abbrev pub is_one_number : List (List ℕ) → Bool
is_one_number (word ∷ []) = is_number (number word)
is_one_number _ = false

-- `--expect`, and conditions
abbrev pub expects : List (List ℕ) → Bool
expects (word ∷ v ∷ vs) = bytes_eq word (codes "--expect")
expects _ = false

-- the words say what is to be written, whether the conditions are such or not
abbrev pub is_form : List (List ℕ) → Bool
is_form [] = true
is_form (word ∷ []) = bytes_eq word (codes "--table")
is_form (word ∷ v ∷ vs) =
    bytes_eq word (codes "--expect") || ((bytes_eq word (codes "--script") && is_one_number (v ∷ vs))
    || (bytes_eq word (codes "--strict") && expects (v ∷ vs)))

-- they say this
abbrev pub IsTask : List (List ℕ) → Task → Type 0
IsTask [] Task.Outcomes = ⊤
IsTask (word ∷ []) Task.Table = word ≡ codes "--table"
IsTask (word ∷ n ∷ []) (Task.Script at) = (word ≡ codes "--script") × (number n ≡ Ok at)
IsTask (word ∷ v ∷ vs) (Task.Expect qs) = (word ≡ codes "--expect") × AreQuestions (v ∷ vs) qs
IsTask (word ∷ w ∷ v ∷ vs) (Task.Strict qs) =
    (word ≡ codes "--strict") × (w ≡ codes "--expect") × AreQuestions (v ∷ vs) qs
IsTask _ _ = ⊥

-- the condition of this number is none, and its word of this number bad
abbrev pub IsBadCondition : List (List ℕ) → ℕ → ℕ → Type 0
IsBadCondition texts n at = bad_question 1 texts ≡ Some (n, at)

-- so of conditions after `--expect`
abbrev pub IsBadExpect : List (List ℕ) → ℕ → ℕ → Type 0
IsBadExpect [] n at = ⊥
IsBadExpect (word ∷ words) n at = (word ≡ codes "--expect") × IsBadCondition words n at

-- or of these after `--strict`
abbrev pub IsBadStrict : List (List ℕ) → ℕ → ℕ → Type 0
IsBadStrict [] n at = ⊥
IsBadStrict (word ∷ words) n at = (word ≡ codes "--strict") × IsBadExpect words n at

-- why they say nothing: they are none of the forms, or a condition is none, or memory ran out
abbrev pub HasNoTask : List (List ℕ) → Status → Type 0
HasNoTask words Status.Usage = is_form words ≡ false
HasNoTask words (Status.Race (RaceEnd.NoCondition n at)) = IsBadExpect words n at ⊎ IsBadStrict words n at
HasNoTask words Status.NoMemory = ⊤
HasNoTask _ _ = ⊥

-- the conditions of a task
abbrev pub questions_in : Task → List Question
questions_in (Task.Expect qs) = qs
questions_in (Task.Strict qs) = qs
questions_in _ = []

-- the conditions at which the search stops as soon as an outcome settles them; with `--strict` it goes on to its end,
-- since any outcome may have a line
abbrev pub goals_in : Task → List Question
goals_in (Task.Expect qs) = qs
goals_in _ = []
