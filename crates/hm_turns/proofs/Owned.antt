-- Own entries stand in a list, and in each list that begins with it.
use Rattle.std.proofs.Common.{◌≡◌, ◌≢◌, ℕ, ◌+◌, ◌<◌, Bool, cond, eqb, Some, List, [], ◌∷◌, ◌++◌, length, slice_get, sym, refl, ap, ◌∙◌, subst, arith, eq-eqb, ne_eqb}
use mathlib.Core.Logic.{dite}
use mathlib.Core.List.{IsPrefix}
use native.Mathlib.Decide.{ℕ_discrete}
use Rattle.std.proofs.lemmas.List.Sums.{sum_by-append}
use Rattle.std.proofs.lemmas.Option.{slice_get_within}
use Rattle.hm_history.specs.declared.Entry.{Entry}
use Rattle.hm_turns.specs.declared.known.Own.{Own}
use Rattle.hm_turns.specs.Sights.{AreThere, times}
use Rattle.hm_turns.proofs.Sums.{get_append, get_last}

-- how often a position is among the own entries of two lists
pub times_both : (x : ℕ) (os ps : List Own) → times x (os ++ ps) ≡ times x os + times x ps
times_both x os ps = sum_by-append (λ (o : Own). cond (eqb o.at x) 1 0) os ps

pub once_here : (o : Own) (x : ℕ) → o.at ≡ x → times x (o ∷ []) ≡ 1
once_here o x here = ap (λ (b : Bool). 0 + cond b 1 0) (eq-eqb o.at x here)

pub never_here : (o : Own) (x : ℕ) → o.at ≢ x → times x (o ∷ []) ≡ 0
never_here o x away = ap (λ (b : Bool). 0 + cond b 1 0) (ne_eqb o.at x away)

get_longer : (xs ys : List Entry) (i : ℕ) (e : Entry) → IsPrefix xs ys → slice_get xs i ≡ Some e → slice_get ys i ≡ Some e
get_longer xs ys i e more at = ap (λ (l : List Entry). slice_get l i) (sym more.1) ∙ (get_append xs more.0 i (slice_get_within xs i e at) ∙ at)

pub there_longer : (xs ys : List Entry) (os : List Own) → IsPrefix xs ys → AreThere xs os → AreThere ys os
there_longer xs ys [] more a = tt
there_longer xs ys (o ∷ os) more a = (get_longer xs ys o.at o.entry more a.0, there_longer xs ys os more a.1)

pub there_both : (xs : List Entry) (os ps : List Own) → AreThere xs os → AreThere xs ps → AreThere xs (os ++ ps)
there_both xs [] ps a b = b
there_both xs (o ∷ os) ps a b = (a.0, there_both xs os ps a.1 b)

-- an own position lies in the list
pub there_inside : (xs : List Entry) (os : List Own) (x : ℕ) → AreThere xs os → 0 < times x os → x < length xs
there_inside xs [] x a some_there = absurd (omega arith)
there_inside xs (o ∷ os) x a some_there = dite (ℕ_discrete o.at x)
    (λ here. subst (λ (n : ℕ). n < length xs) here (slice_get_within xs o.at o.entry a.0))
    (λ away. let sum = times_both x (o ∷ []) os in let none = never_here o x away in there_inside xs os x a.1 (omega arith))

-- the list and the own entries are one entry more
pub there_more : (xs : List Entry) (os : List Own) (e : Entry) → AreThere xs os → AreThere (xs ++ e ∷ []) (os ++ record { at = length xs; entry = e } ∷ [])
there_more xs os e a = there_both (xs ++ e ∷ []) os _ (there_longer xs (xs ++ e ∷ []) os (e ∷ [], refl) a) (get_last xs e, tt)
