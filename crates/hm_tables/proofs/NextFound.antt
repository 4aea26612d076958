-- What a look-up through the words of a table comes to.
use Rattle.std.proofs.Common.{◌≡◌, ℕ, ◌+◌, ◌-◌, ◌/◌, ◌%◌, ◌^◌, ◌<◌, ◌≤◌, Bool, true, false, ◌&&◌, eqb, ltb, leb, cond, Option, Some, None, List, [], ◌∷◌, option_map, ◌⊎◌, inl, inr, refl, sym, ap, ◌∙◌, arith}
use Rattle.std.specs.Prelude.{find, unwrap_or}
use Rattle.std.specs.List.{list_all}
use Rattle.std.proofs.lemmas.Bool.Decides.{nat_tests}
use Rattle.std.proofs.lemmas.Bool.{and_parts}
use Rattle.std.proofs.lemmas.Option.{same_Some}
use Rattle.hm_base.specs.declared.Place.{Place}
use Rattle.hm_base.specs.declared.Place.TheVariants.{Empty, Zero, Sys, Own, Moving, Exclusive}
use Rattle.hm_base.specs.PlaceWords.{writable}
use Rattle.entry_words.specs.Reading.{field, pool_from, place_from}
use Rattle.radix_tables.specs.Maps.{Map, before, is_marked}
use Rattle.hm_tables.specs.Values.{place_of_word}
use Rattle.hm_tables.specs.Sound.{IsOrdered}
use Rattle.hm_tables.specs.Reads.{page_test, is_likely, first_passing, next_in_table, next_in_span, next_likely}
use Rattle.hm_tables.specs.declared.places.PageTest.{PageTest}
use Rattle.hm_tables.specs.declared.places.PageTest.TheVariants.{Used, Writable}
use Rattle.hm_tables.proofs.LoopStep.{Implies, none_passes, first_passes, first_above, none_above, next_passes}

abbrev page_in : Option (ℕ × ℕ) → Option ℕ
page_in o = option_map (λ e. e.0) o

abbrev passing : (Place → Bool) → ℕ → Bool
passing test w = test (place_of_word w)

-- a place with the write right, or one that is exclusive, has a marked word
right_from : (kind : ℕ) (f : Bool) (pool n rest : ℕ) → writable (unwrap_or (place_from kind f pool n rest) Empty) ≡ true → (f ≡ true) ⊎ (eqb kind 5 ≡ true)
right_from kind true pool n rest h = inl refl
right_from kind false pool n rest h = at (eqb kind 5) refl
  where
    by : (a b c d p q r s : Bool) → d ≡ false →
        writable (unwrap_or (cond a (cond p (Some (Sys n false)) None) (cond b (cond q (Some (Own (pool - 1) n false)) None) (cond c (cond r (Some (Moving (record { pool = pool_from pool; number = n }) false)) None) (cond d (cond s (Some (Exclusive n rest)) None) None)))) Empty) ≡ false
    by true b c d true q r s e = refl
    by true b c d false q r s e = refl
    by false true c d p true r s e = refl
    by false true c d p false r s e = refl
    by false false true d p q true s e = refl
    by false false true d p q false s e = refl
    by false false false true p q r s e = cc
    by false false false false p q r s e = refl

    at : (d : Bool) → eqb kind 5 ≡ d → (false ≡ true) ⊎ (eqb kind 5 ≡ true)
    at true e = inr e
    at false e = cc (sym (by (eqb kind 2) (eqb kind 3) (eqb kind 4) (eqb kind 5) _ _ _ _ e) ∙ h)

writable_marked : (w : ℕ) → writable (place_of_word w) ≡ true → is_marked w ≡ true
unfolding place_of_word
writable_marked w h = by (eqb w 0) (eqb w 1) h
  where
    high : (w : ℕ) → eqb (w / 2 ^ 3 % 2 ^ 1) 1 ≡ true → leb 5 (w % 16) ≡ true
    high w e = grind (arith, nat_tests)

    alone : (w : ℕ) → eqb (w / 2 ^ 0 % 2 ^ 3) 5 ≡ true → leb 5 (w % 16) ≡ true
    alone w e = grind (arith, nat_tests)

    at : (eqb (field w 3 1) 1 ≡ true) ⊎ (eqb (field w 0 3) 5 ≡ true) → is_marked w ≡ true
    at (inl e) = high w e
    at (inr e) = alone w e

    by : (a b : Bool) → writable (unwrap_or (cond a (Some Empty) (cond b (Some Zero) (place_from (field w 0 3) (eqb (field w 3 1) 1) (field w 4 4) (field w 8 32) (field w 40 24)))) Empty) ≡ true → is_marked w ≡ true
    by true b h = cc
    by false true h = cc
    by false false h = at (right_from (field w 0 3) (eqb (field w 3 1) 1) (field w 4 4) (field w 8 32) (field w 40 24) h)

likely : (t : PageTest) → Implies (passing (page_test t)) (is_likely t)
likely Used w h = refl
likely Writable w h = writable_marked w h

-- what lies before the end was found, and lies there
record Within (end : ℕ) (z : ℕ × ℕ) (o : Option (ℕ × ℕ)) : Type 0 where
  pub found : o ≡ Some z
  pub lies : ltb z.0 end ≡ true

within : (end : ℕ) (z : ℕ × ℕ) (o : Option (ℕ × ℕ)) → Some z ≡ before end o → Within end z o
within end z None e = cc
within end z (Some y) e = by (ltb y.0 end) refl e
  where
    by : (b : Bool) → ltb y.0 end ≡ b → Some z ≡ cond b (Some y) None → Within end z (Some y)
    by true f e = let same : y ≡ z = same_Some y z (sym e) in record { found = ap (λ x. Some x) same; lies = ap (λ (x : ℕ × ℕ). ltb x.0 end) (sym same) ∙ f }
    by false f e = cc

-- the first word from a page on whose place passes is that from another on
abbrev pub SameFirst : Map → PageTest → ℕ → ℕ → Type 0
SameFirst m t at from = first_passing m (page_test t) at ≡ first_passing m (page_test t) from

goes_on : (m : Map) (t : PageTest) (at from : ℕ) (z : ℕ × ℕ) → IsOrdered m → SameFirst m t at from → next_likely m t at ≡ Some z → page_test t (place_of_word z.1) ≡ false → SameFirst m t (z.0 + 1) from
goes_on m t at from z h same found fails = next_passes (passing (page_test t)) (is_likely t) m.words at z (likely t) h.sorted found fails ∙ same

pub found_here : (m : Map) (t : PageTest) (at from end : ℕ) (z : ℕ × ℕ) → SameFirst m t at from → Some z ≡ before end (next_likely m t at) → page_test t (place_of_word z.1) ≡ true → Some z.0 ≡ next_in_span m (page_test t) from end
found_here m t at from end z same found ok =
    let w = within end z (next_likely m t at) found in
    sym (ap (λ o. page_in (before end o)) (sym same ∙ first_passes (passing (page_test t)) (is_likely t) m.words at z (likely t) w.found ok)
    ∙ ap (λ b. page_in (cond b (Some z) None)) w.lies)

-- a place that passes has a likely word, so that none lies before the first of these
none_before : (m : Map) (t : PageTest) (at end : ℕ) → IsOrdered m → (o : Option (ℕ × ℕ)) → next_likely m t at ≡ o → None ≡ before end o → None ≡ before end (first_passing m (page_test t) at)
none_before m t at end h None e n = ap (before end) (sym (none_passes (passing (page_test t)) (is_likely t) m.words at (likely t) e))
none_before m t at end h (Some z) e n = by (ltb z.0 end) refl n
  where
    later : (a b c : ℕ) → ltb a c ≡ false → a + 1 ≤ b → ltb b c ≡ false
    later a b c f l = grind (arith, nat_tests)

    above : ltb z.0 end ≡ false → (x : Option (ℕ × ℕ)) → first_passing m (page_test t) (z.0 + 1) ≡ x → None ≡ before end x
    above f None k = refl
    above f (Some y) k = sym (ap (λ b. cond b (Some y) None) (later z.0 y.0 end f (first_above (passing (page_test t)) m.words (z.0 + 1) y k)))

    at_it : (c : Bool) → page_test t (place_of_word z.1) ≡ c → ltb z.0 end ≡ false → None ≡ before end (first_passing m (page_test t) at)
    at_it true p f =
        sym (ap (before end) (first_passes (passing (page_test t)) (is_likely t) m.words at z (likely t) e p) ∙ ap (λ b. cond b (Some z) None) f)
    at_it false p f = above f (first_passing m (page_test t) (z.0 + 1)) refl ∙ ap (before end) (goes_on m t at at z h refl e p)

    by : (b : Bool) → ltb z.0 end ≡ b → None ≡ cond b (Some z) None → None ≡ before end (first_passing m (page_test t) at)
    by true f n = cc
    by false f n = at_it (page_test t (place_of_word z.1)) refl f

pub none_here : (m : Map) (t : PageTest) (at from end : ℕ) → IsOrdered m → SameFirst m t at from → None ≡ before end (next_likely m t at) → None ≡ next_in_span m (page_test t) from end
none_here m t at from end h same found = ap page_in (none_before m t at end h (next_likely m t at) refl found ∙ ap (before end) same)

pub none_after : (m : Map) (t : PageTest) (at from end : ℕ) (z : ℕ × ℕ) → IsOrdered m → SameFirst m t at from → Some z ≡ before end (next_likely m t at) → page_test t (place_of_word z.1) ≡ false → z.0 + 1 ≡ 2 ^ 36 → None ≡ next_in_span m (page_test t) from end
none_after m t at from end z h same found fails last =
    ap (λ o. page_in (before end o)) (sym (none_above (passing (page_test t)) m.words (2 ^ 36) h.below) ∙ (ap (first_passing m (page_test t)) (sym last)
    ∙ goes_on m t at from z h same (within end z (next_likely m t at) found).found fails))

-- a step of the loop: the page after the one that was found
pub steps_on : (m : Map) (t : PageTest) (at from end : ℕ) (z : ℕ × ℕ) (page now : ℕ) → IsOrdered m → SameFirst m t at from → Some z ≡ before end (next_likely m t at) → page_test t (place_of_word z.1) ≡ false →
    page ≡ z.0 → now ≡ page + 1 → SameFirst m t now from
steps_on m t at from end z page now h same found fails e f =
    ap (first_passing m (page_test t)) (f ∙ ap (λ n. n + 1) e) ∙ goes_on m t at from z h same (within end z (next_likely m t at) found).found fails

pub falls : (m : Map) (t : PageTest) (at end : ℕ) (z : ℕ × ℕ) (page now : ℕ) → Some z ≡ before end (next_likely m t at) → page ≡ z.0 → page < 2 ^ 36 → now ≡ page + 1 → 2 ^ 36 - now < 2 ^ 36 - at
falls m t at end z page now found e l f = less (first_above (is_likely t) m.words at z (within end z (next_likely m t at) found).found)
  where
    less : at ≤ z.0 → 2 ^ 36 - now < 2 ^ 36 - at
    less k = omega arith

pub ends_last : (z page : ℕ) → page ≡ z → page ≡ 68719476735 → z + 1 ≡ 2 ^ 36
ends_last z page e f = omega arith

-- every word lies before the end of the last page
pub all_before : (m : Map) (t : PageTest) (from : ℕ) → IsOrdered m → next_in_span m (page_test t) from (2 ^ 36) ≡ next_in_table m (page_test t) from
all_before m t from h = by (first_passing m (page_test t) from) refl
  where
    lies : (es : List (ℕ × ℕ)) → list_all (λ e. ltb e.0 (2 ^ 36)) es ≡ true → (y : ℕ × ℕ) → find (λ e. leb from e.0 && passing (page_test t) e.1) es ≡ Some y → ltb y.0 (2 ^ 36) ≡ true
    lies [] l y k = cc
    lies (e ∷ es) l y k = here (leb from e.0 && passing (page_test t) e.1) k (lies es (and_parts (ltb e.0 (2 ^ 36)) _ l).1 y)
      where
        here : (b : Bool) → cond b (Some e) (find (λ e. leb from e.0 && passing (page_test t) e.1) es) ≡ Some y → (find (λ e. leb from e.0 && passing (page_test t) e.1) es ≡ Some y → ltb y.0 (2 ^ 36) ≡ true) → ltb y.0 (2 ^ 36) ≡ true
        here true k r = ap (λ (x : ℕ × ℕ). ltb x.0 (2 ^ 36)) (sym (same_Some e y k)) ∙ (and_parts (ltb e.0 (2 ^ 36)) _ l).0
        here false k r = r k

    by : (o : Option (ℕ × ℕ)) → first_passing m (page_test t) from ≡ o → page_in (before (2 ^ 36) o) ≡ page_in o
    by None e = refl
    by (Some y) e = ap (λ b. page_in (cond b (Some y) None)) (lies m.words h.below y e)
