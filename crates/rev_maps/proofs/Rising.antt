-- Lists of uses in rising order stay so.
use Rattle.std.proofs.Common.{◌≡◌, ℕ, Bool, true, false, not, ◌&&◌, ◌||◌, eqb, ltb, cond, List, [], ◌∷◌, refl, arith}
use Rattle.std.proofs.lemmas.Bool.Decides.{nat_tests}
use Rattle.std.proofs.lemmas.Bool.{and_parts, and_from, or_parts}
use Rattle.rev_maps.specs.declared.uses.Use.{Use}
use Rattle.rev_maps.specs.Uses.{precedes, is_by, has_use, all_after, is_rising, with_use, without_use, marked, with_moving}

pub precedes_over : (a b c : Use) → precedes a b ≡ true → precedes b c ≡ true → precedes a c ≡ true
precedes_over a b c p q = over a.proc a.page b.proc b.page c.proc c.page p q
  where
    over : (a v b w c x : ℕ) → (ltb a b || (eqb a b && ltb v w)) ≡ true → (ltb b c || (eqb b c && ltb w x)) ≡ true → (ltb a c || (eqb a c && ltb v x)) ≡ true
    over a v b w c x p q = grind (arith, nat_tests)

precedes_else : (n u : Use) → precedes n u ≡ false → is_by n.proc n.page u ≡ false → precedes u n ≡ true
precedes_else n u p q = else_ n.proc n.page u.proc u.page p q
  where
    else_ : (a v b w : ℕ) → (ltb a b || (eqb a b && ltb v w)) ≡ false → (eqb b a && eqb w v) ≡ false → (ltb b a || (eqb b a && ltb w v)) ≡ true
    else_ a v b w p q = grind (arith, nat_tests)

pub after_is_another : (proc page : ℕ) (u w : Use) → precedes u w ≡ true → is_by proc page u ≡ true → is_by proc page w ≡ false
after_is_another proc page u w p q = other u.proc u.page w.proc w.page p q
  where
    other : (a v b w : ℕ) → (ltb a b || (eqb a b && ltb v w)) ≡ true → (eqb a proc && eqb v page) ≡ true → (eqb b proc && eqb w page) ≡ false
    other a v b w p q = grind (arith, nat_tests)

after_over : (a b : Use) (us : List Use) → precedes a b ≡ true → all_after b us ≡ true → all_after a us ≡ true
after_over a b [] p h = refl
after_over a b (u ∷ us) p h = and_from (precedes a u) (all_after a us) (precedes_over a b u p (and_parts (precedes b u) (all_after b us) h).0) (after_over a b us p (and_parts (precedes b u) (all_after b us) h).1)

after_with : (a n : Use) (us : List Use) → precedes a n ≡ true → all_after a us ≡ true → all_after a (with_use n us) ≡ true
after_with a n [] p h = and_from (precedes a n) true p refl
after_with a n (u ∷ us) p h = by (precedes n u) (after_with a n us p (and_parts (precedes a u) (all_after a us) h).1)
  where
    by : (b : Bool) → all_after a (with_use n us) ≡ true → all_after a (cond b (n ∷ (u ∷ us)) (u ∷ with_use n us)) ≡ true
    by true r = and_from (precedes a n) (all_after a (u ∷ us)) p h
    by false r = and_from (precedes a u) (all_after a (with_use n us)) (and_parts (precedes a u) (all_after a us) h).0 r

pub rising_with : (n : Use) (us : List Use) → is_rising us ≡ true → has_use n.proc n.page us ≡ false → is_rising (with_use n us) ≡ true
rising_with n [] h d = refl
rising_with n (u ∷ us) h d = by (precedes n u) refl (rising_with n us (and_parts (all_after u us) (is_rising us) h).1 (absent.1))
  where
    absent : (is_by n.proc n.page u ≡ false) × (has_use n.proc n.page us ≡ false)
    absent = or_parts (is_by n.proc n.page u) (has_use n.proc n.page us) d

    by : (b : Bool) → precedes n u ≡ b → is_rising (with_use n us) ≡ true → is_rising (cond b (n ∷ (u ∷ us)) (u ∷ with_use n us)) ≡ true
    by true e r = and_from (all_after n (u ∷ us)) (is_rising (u ∷ us)) (and_from (precedes n u) (all_after n us) e (after_over n u us e (and_parts (all_after u us) (is_rising us) h).0)) h
    by false e r = and_from (all_after u (with_use n us)) (is_rising (with_use n us)) (after_with u n us (precedes_else n u e absent.0) (and_parts (all_after u us) (is_rising us) h).0) r

after_without : (proc page : ℕ) (a : Use) (us : List Use) → all_after a us ≡ true → all_after a (without_use proc page us) ≡ true
after_without proc page a [] h = refl
after_without proc page a (u ∷ us) h = by (not (is_by proc page u)) (after_without proc page a us (and_parts (precedes a u) (all_after a us) h).1)
  where
    by : (b : Bool) → all_after a (without_use proc page us) ≡ true → all_after a (cond b (u ∷ without_use proc page us) (without_use proc page us)) ≡ true
    by true r = and_from (precedes a u) (all_after a (without_use proc page us)) (and_parts (precedes a u) (all_after a us) h).0 r
    by false r = r

pub rising_without : (proc page : ℕ) (us : List Use) → is_rising us ≡ true → is_rising (without_use proc page us) ≡ true
rising_without proc page [] h = refl
rising_without proc page (u ∷ us) h = by (not (is_by proc page u)) (rising_without proc page us (and_parts (all_after u us) (is_rising us) h).1)
  where
    by : (b : Bool) → is_rising (without_use proc page us) ≡ true → is_rising (cond b (u ∷ without_use proc page us) (without_use proc page us)) ≡ true
    by true r = and_from (all_after u (without_use proc page us)) (is_rising (without_use proc page us)) (after_without proc page u us (and_parts (all_after u us) (is_rising us) h).0) r
    by false r = r

-- a mark changes neither process nor page
same_order : (proc page : ℕ) (a u : Use) → (precedes a (marked proc page u) ≡ precedes a u) × (precedes (marked proc page u) a ≡ precedes u a)
same_order proc page a u = by (is_by proc page u)
  where
    by : (b : Bool) → (precedes a (cond b (record u { moving = true }) u) ≡ precedes a u) × (precedes (cond b (record u { moving = true }) u) a ≡ precedes u a)
    by true = (refl, refl)
    by false = (refl, refl)

after_moving : (proc page : ℕ) (a : Use) (us : List Use) → all_after (marked proc page a) (with_moving proc page us) ≡ all_after a us
after_moving proc page a [] = refl
after_moving proc page a (u ∷ us) =
    rw ((same_order proc page (marked proc page a) u).0, (same_order proc page u a).1, after_moving proc page a us) refl

pub rising_moving : (proc page : ℕ) (us : List Use) → is_rising (with_moving proc page us) ≡ is_rising us
rising_moving proc page [] = refl
rising_moving proc page (u ∷ us) = rw (after_moving proc page u us, rising_moving proc page us) refl
