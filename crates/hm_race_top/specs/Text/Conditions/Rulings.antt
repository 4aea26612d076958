-- What the outcomes that a search has found say of conditions, and whether one of them settles all.
use Rattle.std.specs.Prelude.{◌≡◌, ℕ, Bool, true, false, ◌&&◌, ◌||◌, not, if◌then◌else◌, is_none, Option, List, [], ◌∷◌}
use Rattle.std.specs.Prelude.{⊤}
use Rattle.std.specs.List.{list_any, list_all}
use Rattle.hm_base.specs.Program.{Program}
use Rattle.hm_race_top.specs.declared.text.conditions.condition.Condition.{Condition}
use Rattle.hm_race_top.specs.declared.text.conditions.condition.Quantifier.{Quantifier}
use Rattle.hm_race_top.specs.declared.text.conditions.rulings.Ruling.{Ruling}
use Rattle.hm_race_top.specs.declared.text.conditions.question.Question.{Question}
use Rattle.hm_race_top.specs.Text.Conditions.Judged.{holds, is_witness, witness}
use Rattle.hm_race_top.specs.Text.Conditions.Laws.{AllListed, AllReal, Says}
use Rattle.hm_race_top.specs.Text.Conditions.Meets.{meets}

-- what is said of a condition, by an outcome that decides it alone, if there is one; by whether it holds of those that
-- were found; and by whether these are all
abbrev pub ruling_by : Option ℕ → Bool → Bool → Ruling
ruling_by w held whole =
    if is_none w && not whole then Ruling.Open else (if held then Ruling.Holds else Ruling.Fails)

-- the same of these outcomes
abbrev pub ruling_of : Condition → List (List ℕ) → Bool → Ruling
ruling_of k outcomes whole = ruling_by (witness k outcomes) (holds k outcomes) whole

-- the two are the same
abbrev pub is_ruling : Ruling → Ruling → Bool
is_ruling Ruling.Holds Ruling.Holds = true
is_ruling Ruling.Fails Ruling.Fails = true
is_ruling Ruling.Open Ruling.Open = true
is_ruling _ _ = false

-- this is said of one of the conditions
abbrev pub one_has : List Question → List (List ℕ) → Bool → Ruling → Bool
one_has qs outcomes whole wanted =
    list_any (λ (q : Question). is_ruling (ruling_of q.condition outcomes whole) wanted) qs

-- what is said of all of them together: that one fails, or else that one is open, or that all hold
abbrev pub summary : List Question → List (List ℕ) → Bool → Ruling
summary qs outcomes whole =
    if one_has qs outcomes whole Ruling.Fails then Ruling.Fails
    else (if one_has qs outcomes whole Ruling.Open then Ruling.Open else Ruling.Holds)

-- the same with `--strict`: a line that no outcome has, though its condition does not say so itself, counts as a
-- condition that fails; and if not all outcomes are known, it is open whether one has it
abbrev pub strictly : Ruling → Bool → Bool → Ruling
strictly Ruling.Holds true true = Ruling.Fails
strictly Ruling.Holds true false = Ruling.Open
strictly r absent whole = r

-- ---- what one outcome settles

-- a condition that fails by a witness
abbrev pub may_fail : Quantifier → Bool
may_fail Quantifier.Exists = false
may_fail Quantifier.Never = true
may_fail Quantifier.Always = true

-- the condition fails by this outcome alone
abbrev pub fails_by : List ℕ → Condition → Bool
fails_by outcome k = may_fail k.quantifier && is_witness k outcome

-- one of the conditions does
abbrev pub one_fails : List Question → List ℕ → Bool
one_fails qs outcome = list_any (λ (q : Question). fails_by outcome q.condition) qs

-- the outcome decides each of the conditions alone
abbrev pub all_decided : List Question → List ℕ → Bool
all_decided qs outcome = list_all (λ (q : Question). is_witness q.condition outcome) qs

-- the outcome settles the conditions, whatever the others are
abbrev pub settles : List Question → List ℕ → Bool
settles [] outcome = false
settles (q ∷ qs) outcome = one_fails (q ∷ qs) outcome || all_decided (q ∷ qs) outcome

-- ---- the law

-- what is said of the condition is right of the race
abbrev pub IsRuled : Program → Condition → Ruling → Type 0
IsRuled c k Ruling.Holds = Says k.quantifier true c (meets k.body)
IsRuled c k Ruling.Fails = Says k.quantifier false c (meets k.body)
IsRuled c k Ruling.Open = ⊤

-- if all that is listed are outcomes of the race, and if it is `whole` all outcomes are listed, what is said is right
abbrev pub RulingsAreRight : Type 0
RulingsAreRight =
    (c : Program) (k : Condition) (outcomes : List (List ℕ)) (whole : Bool) → AllReal c outcomes
    → (whole ≡ true → AllListed c outcomes) → IsRuled c k (ruling_of k outcomes whole)
