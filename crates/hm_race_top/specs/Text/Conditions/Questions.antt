-- Several conditions, each with its text.
use Rattle.std.specs.Prelude.{◌≡◌, ℕ, ◌+◌, true, Option, Some, None, List, [], ◌∷◌, map, ⊤}
use Rattle.hm_race_laws.specs.Closed.{IsListed}
use Rattle.hm_script.specs.Splitting.{split}
use Rattle.hm_race_top.specs.Text.Conditions.Grammar.{condition_text, first_bad, is_plain}
use Rattle.hm_race_top.specs.declared.text.conditions.question.BadQuestion.{BadQuestion}
use Rattle.hm_race_top.specs.declared.text.conditions.question.Question.{Question}

-- the text is that of the condition, each of whose literals has the words of an answer
pub record IsQuestion (q : Question) : Type 0 where
  pub text : q.text ≡ condition_text q.condition
  pub plain : is_plain q.condition.body ≡ true

-- the number of the first text that is no condition, by that of the first of them; and that of its first word that may
-- not come
abbrev pub bad_question : ℕ → List (List ℕ) → Option (ℕ × ℕ)
bad_question n [] = None
bad_question n (t ∷ ts) = elim (first_bad (split t)) [
  | None ↦ bad_question (n + 1) ts
  | Some w ↦ Some (n, w)
]

-- the conditions with these texts
pub record AreQuestions (texts : List (List ℕ)) (qs : List Question) : Type 0 where
  pub texts_are : map (λ (q : Question). q.text) qs ≡ texts
  pub each : (q : Question) → IsListed qs q → IsQuestion q
  pub good : bad_question 1 texts ≡ None

-- it is this word of this text that is bad; nothing is said if memory ran out
abbrev pub IsBadAmong : Option (ℕ × ℕ) → BadQuestion → Type 0
IsBadAmong found (BadQuestion.Word n w) = found ≡ Some (n, w)
IsBadAmong found BadQuestion.NoMemory = ⊤
