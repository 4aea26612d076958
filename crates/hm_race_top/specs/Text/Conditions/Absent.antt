-- The lines of conditions that are in no outcome.
use Rattle.std.specs.Prelude.{◌≡◌, ℕ, ◌==◌, Bool, true, false, not, ◌&&◌, is_none, List, length, ⊤}
use Rattle.std.specs.List.{list_any}
use Rattle.hm_base.specs.Program.{Program}
use Rattle.hm_race_laws.specs.Closed.{IsListed}
use Rattle.hm_race_top.specs.Text.Conditions.Laws.{AllListed, AllReal, AllSay, OneSays}
use Rattle.hm_race_top.specs.Text.Conditions.Meets.{has_line}
use Rattle.hm_race_top.specs.Text.Conditions.Rulings.{strictly, summary}
use Rattle.hm_race_top.specs.declared.text.conditions.condition.Condition.{Condition}
use Rattle.hm_race_top.specs.declared.text.conditions.condition.Literal.{Literal}
use Rattle.hm_race_top.specs.declared.text.conditions.condition.Quantifier.{Quantifier}
use Rattle.hm_race_top.specs.declared.text.conditions.question.Question.{Question}
use Rattle.hm_race_top.specs.declared.text.conditions.rulings.Ruling.{Ruling}

-- one of the outcomes has the line
abbrev pub is_in : List (List ℕ) → List ℕ → Bool
is_in outcomes line = list_any (λ lines. has_line lines line) outcomes

-- A condition of this quantifier says itself that the line of a literal is in no outcome, if the literal says not how
-- often it is there: `none`, of an alternative that has no other line; or `every`, with `not` before the line, of a
-- body that has no other alternative.
abbrev pub denies_for : Quantifier → Bool → ℕ → ℕ → Bool
denies_for Quantifier.Exists wanted lines alternatives = false
denies_for Quantifier.Never wanted lines alternatives = wanted && (lines == 1)
denies_for Quantifier.Always wanted lines alternatives = not wanted && (alternatives == 1)

-- the condition says so of the line of this literal, which is one of these
abbrev pub denies : Condition → List Literal → Literal → Bool
denies k ls l = is_none l.count && denies_for k.quantifier l.wanted (length ls) (length k.body)

-- none of the outcomes has the line of this literal, which is one of these, and the condition does not say so itself
abbrev pub is_absent : Condition → List (List ℕ) → List Literal → Literal → Bool
is_absent k outcomes ls l = not (denies k ls l) && not (is_in outcomes l.line)

-- so of a line of this alternative
abbrev pub some_absent : Condition → List (List ℕ) → List Literal → Bool
some_absent k outcomes ls = list_any (is_absent k outcomes ls) ls

-- or of a line of the condition
abbrev pub has_absent : Condition → List (List ℕ) → Bool
has_absent k outcomes = list_any (some_absent k outcomes) k.body

-- or of one of the conditions
abbrev pub have_absent : List Question → List (List ℕ) → Bool
have_absent qs outcomes = list_any (λ (q : Question). has_absent q.condition outcomes) qs

-- ---- the laws

-- an outcome of the race has the line, or none has; if it is not known of all outcomes, nothing is said of a line that
-- was not found
abbrev pub IsSeen : Program → List ℕ → Bool → Bool → Type 0
IsSeen c line true whole = OneSays c (λ lines. has_line lines line) true
IsSeen c line false true = AllSay c (λ lines. has_line lines line) false
IsSeen c line false false = ⊤

-- if all that is listed are outcomes of the race, and if it is `whole` all outcomes are listed, what is said of a line
-- is right
abbrev pub SeenIsRight : Type 0
SeenIsRight =
    (c : Program) (outcomes : List (List ℕ)) (whole : Bool) → AllReal c outcomes
    → (whole ≡ true → AllListed c outcomes) → (line : List ℕ) → IsSeen c line (is_in outcomes line) whole

-- an outcome of the race has this line of the condition, if the condition does not say itself that none has
abbrev pub AreSeen : Program → Condition → Type 0
AreSeen c k =
    (ls : List Literal) (l : Literal) → IsListed k.body ls → IsListed ls l → denies k ls l ≡ false
    → OneSays c (λ lines. has_line lines l.line) true

-- so of each of the conditions, if all that is listed are outcomes of the race, and they hold with `--strict`
abbrev pub StrictIsRight : Type 0
StrictIsRight =
    (c : Program) (qs : List Question) (outcomes : List (List ℕ)) (whole : Bool) → AllReal c outcomes
    → strictly (summary qs outcomes whole) (have_absent qs outcomes) whole ≡ Ruling.Holds
    → (q : Question) → IsListed qs q → AreSeen c q.condition
