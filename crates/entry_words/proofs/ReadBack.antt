-- The place of a place's word is that place.
use Rattle.std.proofs.Common.{◌≡◌, ℕ, ◌+◌, ◌^◌, ◌<◌, ◌≤◌, Bool, true, false, Some, None, nat_lt, ◌&&◌, refl, sym, ap, ◌∙◌, arith}
use Rattle.std.specs.Prelude.{IsTrue}
use Rattle.std.proofs.lemmas.Bool.Decides.{nat_tests}
use Rattle.hm_base.specs.declared.PoolId.{PoolId}
use Rattle.hm_base.specs.declared.PoolId.TheVariants.{System, Device}
use Rattle.hm_base.specs.declared.Place.{Place}
use Rattle.hm_base.specs.declared.Place.TheVariants.{Empty, Zero, Sys, Own, Moving, Exclusive}
use Rattle.entry_words.specs.Word.{word, word_of, pool_field, pool_fits, has_word}
use Rattle.entry_words.specs.Reading.{place_from, place_at}

-- the fields of a word are those that it was made of
pub at_word : (k : ℕ) (w : Bool) (p n a : ℕ) → 2 ≤ k → k < 8 → p < 8 → n < 2 ^ 32 → a < 16 → place_at (word k w p n a) ≡ place_from k w p n a
at_word k true p n a h1 h2 h3 h4 h5 = grind (arith, nat_tests)
at_word k false p n a h1 h2 h3 h4 h5 = grind (arith, nat_tests)

moving_back : (q : PoolId) (n : ℕ) (w : Bool) → IsTrue (pool_fits q && nat_lt n (2 ^ 32)) → place_at (word 4 w (pool_field q) n 0) ≡ Some (Moving (record { pool = q; number = n }) w)
moving_back System n w h = at_word 4 w 0 n 0 (omega arith) (omega arith) (omega arith) (grind (arith, nat_tests)) (omega arith)
moving_back (Device d) n w h =
    at_word 4 w (1 + d) n 0 (omega arith) (omega arith) (grind (arith, nat_tests)) (grind (arith, nat_tests)) (omega arith) ∙ grind (arith, nat_tests)

pub read_back : (p : Place) → IsTrue (has_word p) → place_at (word_of p) ≡ Some p
read_back Empty h = refl
read_back Zero h = refl
read_back (Sys n w) h = at_word 2 w 0 n 0 (omega arith) (omega arith) (omega arith) (grind (arith, nat_tests)) (omega arith)
read_back (Own d n w) h = at_word 3 w (1 + d) n 0 (omega arith) (omega arith) (grind (arith, nat_tests)) (grind (arith, nat_tests)) (omega arith) ∙ grind (arith, nat_tests)
read_back (Moving f w) h = moving_back f.pool f.number w h
read_back (Exclusive n a) h = at_word 5 false 0 n a (omega arith) (omega arith) (omega arith) (grind (arith, nat_tests)) (grind (arith, nat_tests)) ∙ grind (arith, nat_tests)

pub not_read : (x : ℕ) → place_at x ≡ None → (p : Place) → IsTrue (has_word p) → word_of p ≡ x → ⊥
not_read x e p h f = let g : Some p ≡ None = sym (read_back p h) ∙ ap place_at f ∙ e in cc
