-- The laws, as statements.
use Rattle.std.specs.Prelude.{◌≡◌, ℕ, Bool, true, false, Some, None, List, ◌++◌}
use Rattle.hm_base.specs.Program.{Program}
use Rattle.hm_history.specs.Laws.{DueFrom}
use Rattle.hm_history.specs.Kernel.Run.{run}
use Rattle.hm_history.specs.declared.Entry.{Entry}
use Rattle.hm_race_laws.specs.Closed.{IsListed}
use Rattle.hm_race_laws.specs.Outcomes.{outcome, answers_of, ended}
use Rattle.hm_race_lines.specs.Answers.{answer_lines}
use Rattle.hm_race_top.specs.Text.Schedule.{with_turns}
use Rattle.hm_race_top.specs.declared.text.conditions.condition.Condition.{Condition}
use Rattle.hm_race_top.specs.declared.text.conditions.condition.Quantifier.{Quantifier}
use Rattle.hm_race_top.specs.Text.Conditions.Meets.{meets}
use Rattle.hm_race_top.specs.Text.Conditions.Judged.{holds, by_witness, witness}

-- the lines of the outcome of a race after these entries
abbrev pub outcome_lines : Program → List Entry → List ℕ
outcome_lines c es = answer_lines (outcome c (answers_of es))

-- entries of a race from its set-up to its end: each is due when it comes, and after them all operations have ended
pub record Ends (c : Program) (es : List Entry) : Type 0 where
  pub due : DueFrom c (run c) es
  pub ended : ended c (run c ++ es) ≡ true

-- the lines of every outcome of the race are listed
abbrev pub AllListed : Program → List (List ℕ) → Type 0
AllListed c outcomes = (es : List Entry) → Ends c es → IsListed outcomes (outcome_lines c es)

-- these are the lines of an outcome of the race
pub record IsReal (c : Program) (lines : List ℕ) : Type 0 where
  pub entries : List Entry
  pub ends : Ends c entries
  pub same : outcome_lines c entries ≡ lines

-- all that is listed are outcomes of the race
abbrev pub AllReal : Program → List (List ℕ) → Type 0
AllReal c outcomes = (lines : List ℕ) → IsListed outcomes lines → IsReal c lines

-- an outcome of the race of which the test says this
pub record OneSays (c : Program) (p : List ℕ → Bool) (says : Bool) : Type 0 where
  pub entries : List Entry
  pub ends : Ends c entries
  pub said : p (outcome_lines c entries) ≡ says

-- the test says this of all outcomes of the race
abbrev pub AllSay : Program → (List ℕ → Bool) → Bool → Type 0
AllSay c p says = (es : List Entry) → Ends c es → p (outcome_lines c es) ≡ says

-- it is said of the race, by outcomes whether they are listed or not, that the condition holds (`true`), or that it
-- fails
abbrev pub Says : Quantifier → Bool → Program → (List ℕ → Bool) → Type 0
Says Quantifier.Exists true c p = OneSays c p true
Says Quantifier.Exists false c p = AllSay c p false
Says Quantifier.Never true c p = AllSay c p false
Says Quantifier.Never false c p = OneSays c p true
Says Quantifier.Always true c p = AllSay c p true
Says Quantifier.Always false c p = OneSays c p false

-- what these outcomes say of the condition is right of the race
abbrev pub IsRight : Program → Condition → List (List ℕ) → Type 0
IsRight c k outcomes = Says k.quantifier (holds k outcomes) c (meets k.body)

-- ---- the laws

-- a condition of `some` holds by a witness, and one of `none` or `every` without one
abbrev pub HoldsByWitness : Type 0
HoldsByWitness =
    (k : Condition) (outcomes : List (List ℕ)) → holds k outcomes ≡ by_witness k.quantifier (witness k outcomes)

-- if every outcome is listed, what is said without a witness is right
abbrev pub ListedIsRight : Type 0
ListedIsRight =
    (c : Program) (k : Condition) (outcomes : List (List ℕ)) → AllListed c outcomes → witness k outcomes ≡ None
    → IsRight c k outcomes

-- if all that is listed are outcomes, what is said with a witness is right
abbrev pub RealIsRight : Type 0
RealIsRight =
    (c : Program) (k : Condition) (outcomes : List (List ℕ)) (at : ℕ) → AllReal c outcomes
    → witness k outcomes ≡ Some at → IsRight c k outcomes

-- if both hold, all that is said is right
abbrev pub WholeIsRight : Type 0
WholeIsRight =
    (c : Program) (k : Condition) (outcomes : List (List ℕ)) → AllListed c outcomes → AllReal c outcomes
    → IsRight c k outcomes

-- whether a race has ended does not depend on a schedule, so what turns lead to is real
abbrev pub SameEnd : Type 0
SameEnd = (c : Program) (turns : List ℕ) (h : List Entry) → ended (with_turns c turns) h ≡ ended c h
