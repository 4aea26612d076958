-- The changes of a part of the tree, in their order.
use Rattle.std.proofs.Common.{◌≡◌, ◌≢◌, ℕ, ◌+◌, ◌<◌, ◌≤◌, Bool, true, false, cond, Option, Some, None, List, [], ◌∷◌, refl, sym, ap, ◌∙◌, arith}
use Rattle.std.specs.List.{filter, AllByRecursion}
use Rattle.std.specs.List.Sorted.{IsStrictlySortedBy}
use Rattle.std.specs.Map.{keys_of, lookup}
use Rattle.std.specs.Ordering.{nat_cmp, is_eq}
use Rattle.std.specs.BTreeMap.{is_at}
use Rattle.std.specs.BTreeMap.Range.{range_contains}
use Rattle.std.specs.declared.ops.Bound.TheVariants.{Included, Excluded}
use Rattle.std.specs.declared.cmp.Ordering.TheVariants.{Less}
use Rattle.std.proofs.lemmas.Bool.Decides.{nat_tests}
use Rattle.hm_why.specs.Changes.{IsAhead, pending, last_change}
use Rattle.hm_why.proofs.LastChange.{kept}

-- what the entries have for a key
abbrev found : List (ℕ × Option ℕ) → ℕ → Option (Option ℕ)
found es k = lookup (is_at (nat_cmp k)) es

pub ahead_same : (f g : ℕ → Option (Option ℕ)) (es : List (ℕ × Option ℕ)) (from end : ℕ) → ((k : ℕ) → from ≤ k → k < end → g k ≡ f k) → IsAhead f es from end → IsAhead g es from end
ahead_same f g [] from end h a = λ k l m. h k l m ∙ a k l m
ahead_same f g (e ∷ es) from end h a =
    (a.0, a.1, h e.0 a.0 a.1 ∙ a.2, λ k l m. h k l (omega (arith, a.1, m)) ∙ a.3 k l m, ahead_same f g es (e.0 + 1) end (λ k l m. h k (omega (arith, a.0, l)) m) a.4)

other_key : (k a : ℕ) → k ≢ a → is_eq (nat_cmp k a) ≡ false
other_key k a d = grind (arith, nat_tests)

same_key : (k : ℕ) → is_eq (nat_cmp k k) ≡ true
same_key k = grind (arith, nat_tests)

less_key : (a b : ℕ) → nat_cmp a b ≡ Less → a < b
less_key a b e = grind (arith, nat_tests)

none_below : (es : List (ℕ × Option ℕ)) (a k : ℕ) → AllByRecursion (λ y. nat_cmp a y ≡ Less) (keys_of es) → k ≤ a → found es k ≡ None
none_below [] a k s l = refl
none_below (e ∷ es) a k s l = ap (λ t. cond t (Some e.1) (found es k)) (other_key k e.0 (λ z. absurd (omega (arith, less_key a e.0 s.0, z, l)))) ∙ none_below es a k s.1 l

-- the keys inside a part are not below this one
abbrev From : ℕ → ℕ → List ℕ → Type 0
From lo t ks = AllByRecursion (λ y. lo ≤ y → t ≤ y) ks

from_next : (lo a : ℕ) (ks : List ℕ) → AllByRecursion (λ y. nat_cmp a y ≡ Less) ks → From lo (a + 1) ks
from_next lo a [] s = s
from_next lo a (k ∷ ks) s = (λ l. omega (arith, less_key a k s.0), from_next lo a ks s.1)

in_part : (lo end a : ℕ) → range_contains nat_cmp (Included lo) (Excluded end) a ≡ true → (lo ≤ a) × (a < end)
in_part lo end a e = grind (arith, nat_tests)

is_in_part : (lo end a : ℕ) → lo ≤ a → a < end → range_contains nat_cmp (Included lo) (Excluded end) a ≡ true
is_in_part lo end a l m = grind (arith, nat_tests)

pub ahead_is : (es : List (ℕ × Option ℕ)) (lo t end : ℕ) → lo ≤ t → IsStrictlySortedBy nat_cmp (keys_of es) → From lo t (keys_of es) →
    IsAhead (found es) (filter (λ e. range_contains nat_cmp (Included lo) (Excluded end) e.0) es) t end
unfolding IsStrictlySortedBy
ahead_is [] lo t end l s a = λ k m n. refl
ahead_is (e ∷ es) lo t end l s a = by (λ u (m : lo ≤ u) (f : From lo u (keys_of es)). ahead_is es lo u end m s.1 f) (range_contains nat_cmp (Included lo) (Excluded end) e.0) refl
  where
    rest : List (ℕ × Option ℕ)
    rest = filter (λ e. range_contains nat_cmp (Included lo) (Excluded end) e.0) es

    past : (k : ℕ) → k ≢ e.0 → found (e ∷ es) k ≡ found es k
    past k d = ap (λ t. cond t (Some e.1) (found es k)) (other_key k e.0 d)

    by : ((u : ℕ) → lo ≤ u → From lo u (keys_of es) → IsAhead (found es) rest u end) → (b : Bool) → range_contains nat_cmp (Included lo) (Excluded end) e.0 ≡ b → IsAhead (found (e ∷ es)) (cond b (e ∷ rest) rest) t end
    by more true r =
        let i = in_part lo end e.0 r in (
          a.0 i.0,
          i.1,
          ap (λ t. cond t (Some e.1) (found es e.0)) (same_key e.0),
          λ k m n. past k (λ z. absurd (omega (arith, z, n))) ∙ none_below es e.0 k s.0 (omega (arith, n)),
          ahead_same (found es) (found (e ∷ es)) rest (e.0 + 1) end (λ k m n. past k (λ z. absurd (omega (arith, z, m)))) (more (e.0 + 1) (omega (arith, i.0)) (from_next lo e.0 (keys_of es) s.0)),
        )
    by more false r = ahead_same (found es) (found (e ∷ es)) rest t end (λ k m n. past k (λ z. absurd (no (sym r ∙ is_in_part lo end e.0 (omega (arith, z, l, m)) (omega (arith, z, n)))))) (more t l a.1)
      where
        no : false ≡ true → ⊥
        no e = cc

pub from_all : (lo : ℕ) (ks : List ℕ) → From lo lo ks
from_all lo [] = tt
from_all lo (k ∷ ks) = (λ l. l, from_all lo ks)

pub no_change : (f : ℕ → Option (Option ℕ)) (next : Option (ℕ × Option ℕ)) (es : List (ℕ × Option ℕ)) (a end : ℕ) → next ≡ None → IsAhead f (pending next es) a end → a < end → f a ≡ None
no_change f None es a end e h l = h a (omega arith) l
no_change f (Some x) es a end e h l = cc

pub none_on : (f : ℕ → Option (Option ℕ)) (next : Option (ℕ × Option ℕ)) (es : List (ℕ × Option ℕ)) (a end : ℕ) → next ≡ None → IsAhead f (pending next es) a end → IsAhead f (pending next es) (a + 1) end
none_on f None es a end e h = λ k l m. h k (omega (arith, l)) m
none_on f (Some x) es a end e h = cc

-- an address that has no change has the entry of the one before it
pub entry_kept : (f : ℕ → Option (Option ℕ)) (a : ℕ) → f (a + 1) ≡ None → last_change f (a + 1) ≡ last_change f a
entry_kept f a e = kept f a (a + 1) (omega arith) (λ k l m. let s : k ≡ a + 1 = omega (arith, l, m) in ap f s ∙ e)
