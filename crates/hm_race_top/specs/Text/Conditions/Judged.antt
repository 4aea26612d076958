-- What the outcomes that are listed say of a condition.
use Rattle.std.specs.Prelude.{ℕ, Bool, not, Option, is_some, is_none, position, List}
use Rattle.std.specs.List.{list_any, list_all}
use Rattle.hm_race_top.specs.declared.text.conditions.condition.Condition.{Condition}
use Rattle.hm_race_top.specs.declared.text.conditions.condition.Quantifier.{Quantifier}
use Rattle.hm_race_top.specs.Text.Conditions.Meets.{meets}

-- this many of the outcomes meet the body as the quantifier asks for
abbrev pub holds_for : Quantifier → (List ℕ → Bool) → List (List ℕ) → Bool
holds_for Quantifier.Exists p outcomes = list_any p outcomes
holds_for Quantifier.Never p outcomes = not (list_any p outcomes)
holds_for Quantifier.Always p outcomes = list_all p outcomes

-- the condition holds of the outcomes
abbrev pub holds : Condition → List (List ℕ) → Bool
holds k outcomes = holds_for k.quantifier (meets k.body) outcomes

-- an outcome that decides alone: one that meets the body, or if all are to meet it one that does not
abbrev pub decides_for : Quantifier → Bool → Bool
decides_for Quantifier.Exists met = met
decides_for Quantifier.Never met = met
decides_for Quantifier.Always met = not met

-- the outcome decides the condition alone
abbrev pub is_witness : Condition → List ℕ → Bool
is_witness k outcome = decides_for k.quantifier (meets k.body outcome)

-- the index of the first that does
abbrev pub witness : Condition → List (List ℕ) → Option ℕ
witness k outcomes = position (is_witness k) outcomes

-- whether a condition holds, by whether an outcome decides it alone
abbrev pub by_witness : Quantifier → Option ℕ → Bool
by_witness Quantifier.Exists w = is_some w
by_witness Quantifier.Never w = is_none w
by_witness Quantifier.Always w = is_none w
