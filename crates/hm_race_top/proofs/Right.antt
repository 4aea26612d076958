-- What outcomes say of a condition is right of their race.
use Rattle.std.proofs.Common.{◌≡◌, ℕ, Bool, true, false, not, Option, Some, None, List, [], ◌∷◌, inl, inr, refl, sym, ap, ◌∙◌, subst}
use Rattle.std.specs.Prelude.{◌⊎◌, ◌||◌, is_some}
use Rattle.std.specs.List.{list_any}
use Rattle.hm_base.specs.Program.{Program}
use Rattle.hm_race_laws.specs.Closed.{IsListed}
use Rattle.hm_race_top.specs.declared.text.conditions.condition.Quantifier.{Quantifier}
use Rattle.hm_race_top.specs.Text.Conditions.Meets.{meets}
use Rattle.hm_race_top.specs.Text.Conditions.Judged.{holds_for, decides_for, witness}
use Rattle.hm_race_top.specs.Text.Conditions.Laws.{AllListed, AllReal, OneSays, AllSay, Says, IsRight, ListedIsRight, RealIsRight, SameEnd, WholeIsRight}
use Rattle.hm_race_top.proofs.Witness.{any_is, all_is}

-- ---- lists

-- an item that is listed and passes
record Passing (p : List ℕ → Bool) (xs : List (List ℕ)) : Type 0 where
  item : List ℕ
  listed : IsListed xs item
  passes : p item ≡ true

passing : (p : List ℕ → Bool) (xs : List (List ℕ)) → list_any p xs ≡ true → Passing p xs
passing p [] h = absurd cc
passing p (x ∷ xs) h = by (passing p xs) (p x) refl h
  where
    later : Passing p xs → Passing p (x ∷ xs)
    later f = record { item = f.item; listed = inr f.listed; passes = f.passes }

    by : (list_any p xs ≡ true → Passing p xs) → (t : Bool) → p x ≡ t → (t || list_any p xs) ≡ true → Passing p (x ∷ xs)
    by rest true e h = record { item = x; listed = inl refl; passes = e }
    by rest false e h = later (rest h)

pub fails_of : {X : Type 0} (p : X → Bool) (xs : List X) (x : X) → list_any p xs ≡ false → IsListed xs x → p x ≡ false
fails_of p [] x h l = absurd l
fails_of p (y ∷ xs) x h l = by (λ g m. fails_of p xs x g m) (p y) refl h l
  where
    by : (list_any p xs ≡ false → IsListed xs x → p x ≡ false) → (t : Bool) → p y ≡ t → (t || list_any p xs) ≡ false → (y ≡ x) ⊎ IsListed xs x → p x ≡ false
    by rest true e h m = absurd cc
    by rest false e h (inl s) = ap p (sym s) ∙ e
    by rest false e h (inr m) = rest h m

from_not : (t u : Bool) → not t ≡ u → t ≡ not u
from_not true u e = ap not e
from_not false u e = ap not e

-- ---- without a witness

pub all_say : (c : Program) (p : List ℕ → Bool) (xs : List (List ℕ)) → AllListed c xs → list_any p xs ≡ false → AllSay c p false
all_say c p xs listed e es ends = fails_of p xs _ e (listed es ends)

without : (q : Quantifier) (c : Program) (p : List ℕ → Bool) (xs : List (List ℕ)) → AllListed c xs → list_any (λ x. decides_for q (p x)) xs ≡ false → Says q (holds_for q p xs) c p
without Quantifier.Exists c p xs listed e = subst (λ t. Says Quantifier.Exists t c p) (sym e) (all_say c p xs listed e)
without Quantifier.Never c p xs listed e = subst (λ t. Says Quantifier.Never t c p) (sym (ap not e)) (all_say c p xs listed e)
without Quantifier.Always c p xs listed e = subst (λ t. Says Quantifier.Always t c p) (sym (all_is p xs ∙ ap not e))
    (λ es ends. from_not _ false (all_say c (λ x. not (p x)) xs listed e es ends))

-- ---- with a witness

pub one_says : (c : Program) (p : List ℕ → Bool) (xs : List (List ℕ)) → AllReal c xs → list_any p xs ≡ true → OneSays c p true
one_says c p xs real e =
    let f = passing p xs e in
    let r = real f.item f.listed in
    record { entries = r.entries; ends = r.ends; said = ap p r.same ∙ f.passes }

one_misses : (c : Program) (p : List ℕ → Bool) → OneSays c (λ x. not (p x)) true → OneSays c p false
one_misses c p o = record { entries = o.entries; ends = o.ends; said = from_not _ true o.said }

with_one : (q : Quantifier) (c : Program) (p : List ℕ → Bool) (xs : List (List ℕ)) → AllReal c xs → list_any (λ x. decides_for q (p x)) xs ≡ true → Says q (holds_for q p xs) c p
with_one Quantifier.Exists c p xs real e = subst (λ t. Says Quantifier.Exists t c p) (sym e) (one_says c p xs real e)
with_one Quantifier.Never c p xs real e = subst (λ t. Says Quantifier.Never t c p) (sym (ap not e)) (one_says c p xs real e)
with_one Quantifier.Always c p xs real e = subst (λ t. Says Quantifier.Always t c p) (sym (all_is p xs ∙ ap not e))
    (one_misses c p (one_says c (λ x. not (p x)) xs real e))

-- ---- the laws

pub listed_is_right : ListedIsRight
listed_is_right c k xs listed e =
    without k.quantifier c (meets k.body) xs listed (any_is (λ x. decides_for k.quantifier (meets k.body x)) xs ∙ ap is_some e)

pub real_is_right : RealIsRight
real_is_right c k xs at real e =
    with_one k.quantifier c (meets k.body) xs real (any_is (λ x. decides_for k.quantifier (meets k.body x)) xs ∙ ap is_some e)

pub whole_is_right : WholeIsRight
whole_is_right c k xs listed real = by (witness k xs) refl
  where
    by : (o : Option ℕ) → witness k xs ≡ o → IsRight c k xs
    by None e = listed_is_right c k xs listed e
    by (Some at) e = real_is_right c k xs at real e

pub same_end : SameEnd
same_end c turns h = refl
