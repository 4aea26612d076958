-- The next page of a process that passes a test.
use Rattle.std.proofs.Common.{◌≡◌, ℕ, ◌<◌, ◌≤◌, ◌⊎◌, inl, inr, Bool, true, false, ◌==◌, ◌&&◌, ◌||◌, nat_lt, nat_le, if◌then◌else◌, Option, Some, None, List, [], ◌∷◌, refl, sym, ap, ◌∙◌, subst, arith}
use Rattle.std.specs.List.{list_any}
use Rattle.std.proofs.lemmas.Bool.Decides.{nat_tests}
use Rattle.std.proofs.lemmas.Bool.{and_parts, and_from, eqb-true}
use Rattle.std.proofs.lemmas.Option.{same_Some}
use Rattle.hm_base.specs.declared.Place.{Place}
use Rattle.hm_history.specs.Memory.Words.{is_empty_place}
use Rattle.hm_history.specs.Memory.Places.{Places, is_page, lowest, lower}
use Rattle.hm_laws.specs.Sound.{PlaceRules}
use Rattle.hm_laws.proofs.State.Search.{lowest_none}
use Rattle.hm_laws.proofs.Kept.PlaceLocks.{lowest_passes}
use Rattle.hm_history.specs.Memory.Places.{next_page}
use Rattle.hm_history.proofs.Tests.{true_false}
use Rattle.hm_history.proofs.Placed.{is_page_true}

-- the lowest page is below each that passes
abbrev at_most : ℕ × ℕ → ℕ → ℕ → Bool
at_most z p v = nat_lt z.0 p || ((z.0 == p) && nat_le z.1 v)

lower_least : (x y z : ℕ × ℕ) (p v : ℕ) → lower x (Some y) ≡ Some z → ((is_page p v x ≡ true) ⊎ (at_most y p v ≡ true)) → at_most z p v ≡ true
lower_least x y z p v h k = by (nat_lt x.0 y.0 || ((x.0 == y.0) && nat_lt x.1 y.1)) refl h k
  where
    by : (b : Bool) → (nat_lt x.0 y.0 || ((x.0 == y.0) && nat_lt x.1 y.1)) ≡ b → (if b then Some x else Some y) ≡ Some z → ((is_page p v x ≡ true) ⊎ (at_most y p v ≡ true)) → at_most z p v ≡ true
    by true e i (inl k) = subst (λ w. at_most w p v ≡ true) (same_Some x z i) (grind (arith, nat_tests))
    by true e i (inr k) = subst (λ w. at_most w p v ≡ true) (same_Some x z i) (grind (arith, nat_tests))
    by false e i (inl k) = subst (λ w. at_most w p v ≡ true) (same_Some y z i) (grind (arith, nat_tests))
    by false e i (inr k) = subst (λ w. at_most w p v ≡ true) (same_Some y z i) k

pub lowest_least : (t : ℕ → ℕ → Bool) (xs : List (ℕ × ℕ)) (z : ℕ × ℕ) (p v : ℕ) → lowest t xs ≡ Some z → list_any (is_page p v) xs ≡ true → t p v ≡ true → at_most z p v ≡ true
lowest_least t [] z p v h l k = cc
lowest_least t (x ∷ xs) z p v h l k = by (lowest_least t xs) (t x.0 x.1) refl (lowest t xs) refl h
  where
    here : is_page p v x ≡ true → x ≡ (p, v)
    here e = is_page_true p v x e

    by : ((z : ℕ × ℕ) (p v : ℕ) → lowest t xs ≡ Some z → list_any (is_page p v) xs ≡ true → t p v ≡ true → at_most z p v ≡ true) → (b : Bool) → t x.0 x.1 ≡ b → (y : Option (ℕ × ℕ)) → lowest t xs ≡ y → ◌≡◌ {A = Option (ℕ × ℕ)} (elim b [ true ↦ lower x y | false ↦ y ]) (Some z) → at_most z p v ≡ true
    by ih true e None ey i = only (is_page p v x) refl l
      where
        some_at : Some x ≡ Some z → x ≡ z
        some_at i = cc

        only : (b : Bool) → is_page p v x ≡ b → (b || list_any (is_page p v) xs) ≡ true → at_most z p v ≡ true
        only true ex m = subst (λ w. at_most w p v ≡ true) (some_at i) (grind (arith, nat_tests))
        only false ex m = absurd (true_false (t p v) k (lowest_none t xs p v ey m))
    by ih true e (Some y) ey i = lower_least x y z p v i (at (is_page p v x) refl l)
      where
        at : (b : Bool) → is_page p v x ≡ b → (b || list_any (is_page p v) xs) ≡ true → (is_page p v x ≡ true) ⊎ (at_most y p v ≡ true)
        at true ex m = inl ex
        at false ex m = inr (ih y p v ey m k)
    by ih false e y ey i = at (is_page p v x) refl l
      where
        at : (b : Bool) → is_page p v x ≡ b → (b || list_any (is_page p v) xs) ≡ true → at_most z p v ≡ true
        at true ex m = absurd (true_false (t p v) k (ap (λ (w : ℕ × ℕ). t w.0 w.1) (sym (here ex)) ∙ e))
        at false ex m = ih z p v (ey ∙ i) m k

-- the next page passes, and none between does; or none from there on does
pub record NextSays (s : Places) (test : Place → Bool) (p from u : ℕ) : Type 0 where
  pub passes : test (s.place p u) ≡ true
  pub above : from ≤ u
  pub between : (w : ℕ) → from ≤ w → w < u → test (s.place p w) ≡ false

pub record NoneSays (s : Places) (test : Place → Bool) (p from : ℕ) : Type 0 where
  pub fails : (w : ℕ) → from ≤ w → test (s.place p w) ≡ false

listed_of : (s : Places) (test : Place → Bool) → PlaceRules s.place s.placed → ((x : Place) → is_empty_place x ≡ true → test x ≡ false) → (p w : ℕ) → test (s.place p w) ≡ true → list_any (is_page p w) s.placed ≡ true
listed_of s test rules no_empty p w h = rules.listed p w (by (is_empty_place (s.place p w)) refl)
  where
    by : (b : Bool) → is_empty_place (s.place p w) ≡ b → b ≡ false
    by true e = absurd (true_false (test (s.place p w)) h (no_empty (s.place p w) e))
    by false e = refl

abbrev tested : Places → (Place → Bool) → ℕ → ℕ → ℕ → ℕ → Bool
tested s test p from q v = (q == p) && (nat_le from v && test (s.place q v))

passed : (s : Places) (test : Place → Bool) (p from w : ℕ) → from ≤ w → test (s.place p w) ≡ true → tested s test p from p w ≡ true
passed s test p from w l h = and_from (p == p) (nat_le from w && test (s.place p w)) (itself p) (and_from (nat_le from w) (test (s.place p w)) (less from w l) h)
  where
    itself : (p : ℕ) → (p == p) ≡ true
    itself p = grind (arith, nat_tests)

    less : (m n : ℕ) → m ≤ n → nat_le m n ≡ true
    less m n l = grind (arith, nat_tests)

pub next_says : (s : Places) (test : Place → Bool) → PlaceRules s.place s.placed → ((x : Place) → is_empty_place x ≡ true → test x ≡ false) → (p from u : ℕ) → next_page s test p from ≡ Some u → NextSays s test p from u
next_says s test rules no_empty p from u h = by (lowest (tested s test p from) s.placed) refl h
  where
    by : (x : Option (ℕ × ℕ)) → lowest (tested s test p from) s.placed ≡ x → ◌≡◌ {A = Option ℕ} (elim x [ None ↦ None | Some z ↦ Some z.1 ]) (Some u) → NextSays s test p from u
    by None e k = cc
    by (Some z) e k = subst (NextSays s test p from) (number k) (record {
      passes = ap (λ q. test (s.place q z.1)) (sym proc) ∙ (and_parts (nat_le from z.1) (test (s.place z.0 z.1)) (and_parts (z.0 == p) (nat_le from z.1 && test (s.place z.0 z.1)) ok).1).1;
      above = above (and_parts (nat_le from z.1) (test (s.place z.0 z.1)) (and_parts (z.0 == p) (nat_le from z.1 && test (s.place z.0 z.1)) ok).1).0;
      between = λ w l m. fails w l m (test (s.place p w)) refl;
    })
      where
        number : Some z.1 ≡ Some u → z.1 ≡ u
        number k = cc

        ok : tested s test p from z.0 z.1 ≡ true
        ok = lowest_passes (tested s test p from) s.placed z e

        proc : z.0 ≡ p
        proc = eqb-true z.0 p (and_parts (z.0 == p) (nat_le from z.1 && test (s.place z.0 z.1)) ok).0

        above : nat_le from z.1 ≡ true → from ≤ z.1
        above h = grind (arith, nat_tests)

        fails : (w : ℕ) → from ≤ w → w < z.1 → (b : Bool) → test (s.place p w) ≡ b → b ≡ false
        fails w l m false eb = refl
        fails w l m true eb = absurd (past (lowest_least (tested s test p from) s.placed z p w e (listed_of s test rules no_empty p w eb) (passed s test p from w l eb)))
          where
            past : at_most z p w ≡ true → ⊥
            past h = grind (arith, nat_tests, proc)

pub none_says : (s : Places) (test : Place → Bool) → PlaceRules s.place s.placed → ((x : Place) → is_empty_place x ≡ true → test x ≡ false) → (p from : ℕ) → next_page s test p from ≡ None → NoneSays s test p from
none_says s test rules no_empty p from h = record { fails = λ w l. by (lowest (tested s test p from) s.placed) refl h w l (test (s.place p w)) refl }
  where
    by : (x : Option (ℕ × ℕ)) → lowest (tested s test p from) s.placed ≡ x → ◌≡◌ {A = Option ℕ} (elim x [ None ↦ None | Some z ↦ Some z.1 ]) None → (w : ℕ) → from ≤ w → (b : Bool) → test (s.place p w) ≡ b → b ≡ false
    by x e k w l false eb = refl
    by None e k w l true eb = absurd (true_false (tested s test p from p w) (passed s test p from w l eb) (lowest_none (tested s test p from) s.placed p w e (listed_of s test rules no_empty p w eb)))
    by (Some z) e k w l true eb = cc
