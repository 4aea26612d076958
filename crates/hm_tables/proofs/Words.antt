-- The words of a table after a change, and the places that they stand for.
use Rattle.std.proofs.Common.{◌≡◌, ℕ, ◌^◌, ◌<◌, T, Bool, true, false, not, ◌&&◌, eqb, ltb, cond, Some, None, List, [], ◌∷◌, refl, sym, ap, ◌∙◌, subst, arith}
use Rattle.std.specs.Prelude.{unwrap_or}
use Rattle.std.specs.List.{list_all}
use Rattle.std.specs.Ordering.{nat_cmp, eq_by_cmp}
use Rattle.std.specs.declared.cmp.Ordering.{Ordering}
use Rattle.std.specs.declared.cmp.Ordering.TheVariants.{Less, Equal, Greater}
use Rattle.std.specs.Cmp.{nat_cmp_total}
use Rattle.std.specs.FinMap.Entries as sorted
use Rattle.std.proofs.lemmas.Bool.Decides.{nat_tests}
use Rattle.hm_base.specs.declared.Place.{Place}
use Rattle.hm_base.specs.declared.Place.TheVariants.{Empty}
use Rattle.hm_base.specs.PlaceWords.{is_empty_place}
use Rattle.entry_words.specs.Word.{word_of, has_word}
use Rattle.entry_words.proofs.ReadBack.{read_back}
use Rattle.radix_tables.specs.Maps.{Map, word_at, with_word, without_word}
use Rattle.hm_tables.specs.Values.{place_of_word, place_in_table, table_with}
use Rattle.hm_tables.specs.Sound.{IsOrdered}

-- the place of a place's word is that place
pub place_back : (x : Place) → has_word x ≡ true → place_of_word (word_of x) ≡ x
unfolding place_of_word
place_back x h = ap (λ o. unwrap_or o Empty) (read_back x h)

pub none_is_empty : place_of_word 0 ≡ Empty
unfolding place_of_word
none_is_empty = refl

pub tied_is : (a b : ℕ) → eq_by_cmp nat_cmp a b ≡ eqb a b
tied_is a b = grind (arith, nat_tests)

pub word_with : (m : Map) (v w u : ℕ) → word_at (with_word m v w) u ≡ cond (eqb u v) w (word_at m u)
word_with m v w u = ap (λ o. unwrap_or o 0) (sorted.find-put nat_cmp nat_cmp_total u v w m.words) ∙ ap (λ b. unwrap_or (cond b (Some w) (sorted.find nat_cmp u m.words)) 0) (tied_is u v) ∙ by (eqb u v)
  where
    by : (b : Bool) → unwrap_or (cond b (Some w) (sorted.find nat_cmp u m.words)) 0 ≡ cond b w (word_at m u)
    by true = refl
    by false = refl

alike : (v u x : ℕ) → nat_cmp u x ≡ Equal → not (eqb x v) ≡ not (eqb u v)
alike v u x e = grind (arith, nat_tests)

pub word_without : (m : Map) (v u : ℕ) → word_at (without_word m v) u ≡ cond (eqb u v) 0 (word_at m u)
word_without m v u = ap (λ o. unwrap_or o 0) (sorted.find-where_key nat_cmp (λ k. not (eqb k v)) u (alike v u) m.words) ∙ by (eqb u v)
  where
    by : (b : Bool) → unwrap_or (cond (not b) (sorted.find nat_cmp u m.words) None) 0 ≡ cond b 0 (word_at m u)
    by true = refl
    by false = refl

-- the place at each page after a change
pub place_with : (m : Map) (v : ℕ) (x : Place) (u : ℕ) → has_word x ≡ true → place_in_table (table_with m v x) u ≡ cond (eqb u v) x (place_in_table m u)
place_with m v x u h = by (is_empty_place x) refl
  where
    empty : (x : Place) → is_empty_place x ≡ true → x ≡ Empty
    empty x e = grind arith

    gone : (b : Bool) → place_of_word (cond b 0 (word_at m u)) ≡ cond b Empty (place_in_table m u)
    gone true = none_is_empty
    gone false = refl

    come : (b : Bool) → place_of_word (cond b (word_of x) (word_at m u)) ≡ cond b x (place_in_table m u)
    come true = place_back x h
    come false = refl

    by : (b : Bool) → is_empty_place x ≡ b → place_in_table (cond b (without_word m v) (with_word m v (word_of x))) u ≡ cond (eqb u v) x (place_in_table m u)
    by true e = ap place_of_word (word_without m v u) ∙ gone (eqb u v) ∙ ap (λ y. cond (eqb u v) y (place_in_table m u)) (sym (empty x e))
    by false e = ap place_of_word (word_with m v (word_of x) u) ∙ come (eqb u v)

-- the order of the pages

below_put : (n v w : ℕ) (es : List (ℕ × ℕ)) → v < n → list_all (λ e. ltb e.0 n) es ≡ true → list_all (λ e. ltb e.0 n) (sorted.put nat_cmp v w es) ≡ true
below_put n v w [] l h = grind (arith, nat_tests)
below_put n v w (e ∷ es) l h = by (nat_cmp v e.0) (below_put n v w es l)
  where
    by : (o : Ordering) → (list_all (λ e. ltb e.0 n) es ≡ true → list_all (λ e. ltb e.0 n) (sorted.put nat_cmp v w es) ≡ true) →
        list_all (λ e. ltb e.0 n) (sorted.by_order o ((v, w) ∷ e ∷ es) ((e.0, w) ∷ es) (e ∷ sorted.put nat_cmp v w es)) ≡ true
    by Less r = grind (arith, nat_tests)
    by Equal r = h
    by Greater r = grind (arith, nat_tests, r)

below_where : (n : ℕ) (test : ℕ → Bool) (es : List (ℕ × ℕ)) → list_all (λ e. ltb e.0 n) es ≡ true → list_all (λ e. ltb e.0 n) (sorted.where_key nat_cmp test es) ≡ true
below_where n test [] h = refl
below_where n test (e ∷ es) h = by (test e.0) (ltb e.0 n) refl h (below_where n test es)
  where
    by : (b t : Bool) → ltb e.0 n ≡ t → (t && list_all (λ e. ltb e.0 n) es) ≡ true → (list_all (λ e. ltb e.0 n) es ≡ true → list_all (λ e. ltb e.0 n) (sorted.where_key nat_cmp test es) ≡ true) →
        list_all (λ e. ltb e.0 n) (cond b (e ∷ sorted.where_key nat_cmp test es) (sorted.where_key nat_cmp test es)) ≡ true
    by b false te k r = cc
    by false true te k r = r k
    by true true te k r = rw te (r k)

holds : (b : Bool) → b ≡ true → T b
holds b e = subst T (sym e) tt

is_true : (b : Bool) → T b → b ≡ true
is_true true h = refl
is_true false h = absurd h

pub ordered_with : (m : Map) (v : ℕ) (x : Place) → v < 2 ^ 36 → IsOrdered m → IsOrdered (table_with m v x)
ordered_with m v x l h = by (is_empty_place x)
  where
    by : (b : Bool) → IsOrdered (cond b (without_word m v) (with_word m v (word_of x)))
    by true = record {
      sorted = is_true _ (sorted.is_sorted-where_key nat_cmp (λ k. not (eqb k v)) m.words (holds _ h.sorted));
      below = below_where (2 ^ 36) (λ k. not (eqb k v)) m.words h.below;
    }
    by false = record {
      sorted = is_true _ (sorted.is_sorted-put nat_cmp nat_cmp_total v (word_of x) m.words (holds _ h.sorted));
      below = below_put (2 ^ 36) v (word_of x) m.words l h.below;
    }
