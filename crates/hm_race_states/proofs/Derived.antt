-- What a derived `==` of an enum says: that two values are one, if it says so of the fields of each variant.
use Rattle.std.proofs.Common.{◌≡◌, true, false, Bool, List, [], ◌∷◌, ap, sym, ◌∙◌}
use Rattle.std.specs.Bool.{Decides}
use mathlib.Core.Logic.{inl, inr}
use denote.Struct.Field.{Field}
use denote.Struct.Values.{Values}
use denote.Enum.Declared.{Choice, Record}
use denote.Enum.Compared.{Each, by}

-- the test of each variant says whether the fields are the same
abbrev pub DecideFields : (parts : List (List Field)) → Each Bool parts → Type 0
DecideFields [] tests = Unit {0}
DecideFields (fields ∷ parts) tests =
    ((x y : Values fields) → Decides (tests.0 x y) (x ≡ y)) × DecideFields parts tests.1

abbrev is_first : (fields : List Field) (parts : List (List Field)) → Choice (fields ∷ parts) → Bool
is_first fields parts (inl x) = true
is_first fields parts (inr x) = false

abbrev first_or : (fields : List Field) (parts : List (List Field))
    → Values fields → Choice (fields ∷ parts) → Values fields
first_or fields parts x (inl y) = y
first_or fields parts x (inr y) = x

abbrev later_or : (fields : List Field) (parts : List (List Field))
    → Choice parts → Choice (fields ∷ parts) → Choice parts
later_or fields parts x (inl y) = x
later_or fields parts x (inr y) = y

choices_are_decided : (parts : List (List Field)) (tests : Each Bool parts) → DecideFields parts tests
    → (x y : Choice parts) → Decides (by false false parts tests x y) (x ≡ y)
choices_are_decided [] tests all x y = absurd x
choices_are_decided (fields ∷ parts) tests all (inl x) (inl y) =
    let decided = all.0 x y in
    ((λ e. ap inl (decided.0 e)), (λ e. decided.1 (ap (first_or fields parts x) e)))
choices_are_decided (fields ∷ parts) tests all (inl x) (inr y) =
    ((λ e. search), (λ e. sym (ap (is_first fields parts) e)))
choices_are_decided (fields ∷ parts) tests all (inr x) (inl y) =
    ((λ e. search), (λ e. ap (is_first fields parts) e))
choices_are_decided (fields ∷ parts) tests all (inr x) (inr y) =
    let decided = choices_are_decided parts tests.1 all.1 x y in
    ((λ e. ap inr (decided.0 e)), (λ e. decided.1 (ap (later_or fields parts x) e)))

-- the whole test says whether the values are the same
pub values_are_decided : (T : Record) (tests : Each Bool T.parts) → DecideFields T.parts tests
    → (x y : T.D) → Decides (by false false T.parts tests (T.as_values x) (T.as_values y)) (x ≡ y)
values_are_decided T tests all x y =
    let decided = choices_are_decided T.parts tests all (T.as_values x) (T.as_values y) in
    ((λ e. sym (T.eta x) ∙ ap T.make (decided.0 e) ∙ T.eta y), (λ e. decided.1 (ap T.as_values e)))
