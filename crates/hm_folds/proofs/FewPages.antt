-- There are fewer pages than a count of them can say.
use Rattle.std.proofs.Common.{◌≡◌, ℕ, ◌+◌, ◌*◌, ◌^◌, ◌<◌, ◌≤◌, Bool, true, false, not, eqb, ◌==◌, ◌&&◌, ◌||◌, List, [], ◌∷◌, ◌++◌, length, count_by, refl, sym, ap, ◌∙◌, subst, arith, ◌⊎◌, inl, inr, length-append}
use Rattle.std.specs.List.{list_any, IsDistinct}
use Rattle.std.specs.Cmp.{nat_eq_equiv}
use Rattle.std.proofs.lemmas.Bool.{and_parts, not-true, cases_lt}
use Rattle.std.proofs.lemmas.Bool.Decides.{nat_tests}
use Rattle.std.proofs.lemmas.List.{get_or_past}
use Rattle.std.proofs.lemmas.List.Folds.{list_any-append}
use Rattle.std.proofs.lemmas.Map.Keys.{IsDistinct-push}
use Rattle.std.proofs.lemmas.Map.Steps.{length-le_from_distinct_below}
use Rattle.hm_base.specs.Program.{Program}
use Rattle.hm_base.specs.declared.Frame.{Frame}
use Rattle.hm_base.specs.declared.Place.{Place}
use Rattle.hm_base.specs.declared.Place.TheVariants.{Empty}
use Rattle.hm_base.specs.PlaceWords.{writable}
use Rattle.hm_history.specs.Memory.Places.{Places, is_page}
use Rattle.hm_history.proofs.Tests.{true_false}
use Rattle.hm_tables.specs.Values.{Tables, no_words, place_of, place_in_table}
use Rattle.hm_tables.specs.Shown.{is_once, TablesShown}
use Rattle.hm_tables.proofs.Words.{none_is_empty}
use Rattle.hm_folds.specs.Shares.{AllFit}
use Rattle.hm_folds.specs.Standing.{pages_where, shares_where, is_backed, is_moving_of, share_of}
use Rattle.hm_folds.specs.declared.shares.Shares.{Shares}
use Rattle.hm_folds.proofs.Counts.{one_if}
use Rattle.hm_folds.proofs.PlacedCounts.{count_cons}
use Rattle.hm_folds.proofs.PastPages.{past_place}

-- ---- pages that pass a test, by numbers

abbrev code : ℕ × ℕ → ℕ
code y = y.0 * 2 ^ 36 + y.1

record AreCodes (t : ℕ × ℕ → Bool) (xs : List (ℕ × ℕ)) : Type 0 where
  codes : List ℕ
  long : length codes ≡ count_by t xs
  distinct : IsDistinct eqb codes
  from : (q : ℕ) → list_any (eqb q) codes ≡ true → (y : ℕ × ℕ) × (list_any (is_page y.0 y.1) xs ≡ true) × (t y ≡ true) × (q ≡ code y)

no_codes : (t : ℕ × ℕ → Bool) → AreCodes t []
unfolding IsDistinct
no_codes t = record { codes = []; long = refl; distinct = tt; from = λ q e. absurd (true_false (list_any (eqb q) []) e refl) }

later : (p v : ℕ) (x : ℕ × ℕ) (xs : List (ℕ × ℕ)) → list_any (is_page p v) xs ≡ true → list_any (is_page p v) (x ∷ xs) ≡ true
later p v x xs h = by (is_page p v x)
  where
    by : (b : Bool) → (b || list_any (is_page p v) xs) ≡ true
    by true = refl
    by false = h

here_too : (x y : ℕ × ℕ) (xs : List (ℕ × ℕ)) → y.0 ≡ x.0 → y.1 ≡ x.1 → list_any (is_page y.0 y.1) xs ≡ true → list_any (is_page x.0 x.1) xs ≡ true
here_too x y xs a b h = ap (λ n. list_any (is_page n x.1) xs) (sym a) ∙ ap (λ n. list_any (is_page y.0 n) xs) (sym b) ∙ h

same_code : (a b r s : ℕ) → r < 2 ^ 36 → s < 2 ^ 36 → a * 2 ^ 36 + r ≡ b * 2 ^ 36 + s → (b ≡ a) × (s ≡ r)
same_code a b r s l m e = (omega arith, omega arith)

coded : (t : ℕ × ℕ → Bool) (xs : List (ℕ × ℕ)) → is_once xs ≡ true → ((y : ℕ × ℕ) → t y ≡ true → y.1 < 2 ^ 36) → AreCodes t xs
coded t [] once low = no_codes t
coded t (x ∷ xs) once low = by (t x) refl (coded t xs parts.1 low)
  where
    parts : (not (list_any (is_page x.0 x.1) xs) ≡ true) × (is_once xs ≡ true)
    parts = and_parts (not (list_any (is_page x.0 x.1) xs)) (is_once xs) once

    absent : list_any (is_page x.0 x.1) xs ≡ false
    absent = not-true (list_any (is_page x.0 x.1) xs) parts.0

    by : (b : Bool) → t x ≡ b → AreCodes t xs → AreCodes t (x ∷ xs)
    by false e h = record {
      codes = h.codes;
      long = omega (arith, h.long, count_cons t x xs, ap one_if e);
      distinct = h.distinct;
      from = λ q k. let f = h.from q k in (f.0, later f.0.0 f.0.1 x xs f.1, f.2, f.3);
    }
    by true e h = record {
      codes = h.codes ++ code x ∷ [];
      long = omega (arith, length-append h.codes (code x ∷ []), h.long, count_cons t x xs, ap one_if e);
      distinct = IsDistinct-push nat_eq_equiv h.codes (code x) h.distinct (apart (list_any (eqb (code x)) h.codes) refl);
      from = λ q k. here q (list_any (eqb q) h.codes) refl (sym (list_any-append (eqb q) h.codes (code x ∷ [])) ∙ k);
    }
      where
        apart : (b : Bool) → list_any (eqb (code x)) h.codes ≡ b → list_any (eqb (code x)) h.codes ≡ false
        apart false k = k
        apart true k =
            let f = h.from (code x) k in
            let s = same_code x.0 f.0.0 x.1 f.0.1 (low x e) (low f.0 f.2) f.3 in
            absurd (true_false (list_any (is_page x.0 x.1) xs) (here_too x f.0 xs s.0 s.1 f.1) absent)

        itself : (p v : ℕ) → ((p == p) && (v == v)) ≡ true
        itself p v = grind (arith, nat_tests)

        first : list_any (is_page x.0 x.1) (x ∷ xs) ≡ true
        first = ap (λ b. b || list_any (is_page x.0 x.1) xs) (itself x.0 x.1)

        last : (q : ℕ) → (eqb q (code x) || false) ≡ true → q ≡ code x
        last q k = grind (arith, nat_tests)

        here : (q : ℕ) (b : Bool) → list_any (eqb q) h.codes ≡ b → (list_any (eqb q) h.codes || list_any (eqb q) (code x ∷ [])) ≡ true →
            (y : ℕ × ℕ) × (list_any (is_page y.0 y.1) (x ∷ xs) ≡ true) × (t y ≡ true) × (q ≡ code y)
        here q true m k = let f = h.from q m in (f.0, later f.0.0 f.0.1 x xs f.1, f.2, f.3)
        here q false m k = (x, first, e, last q (sym (ap (λ b. b || list_any (eqb q) (code x ∷ [])) m) ∙ k))

-- ---- so there are few of them

low_code : (y : ℕ × ℕ) (q : ℕ) → (y.0 < 32) × (y.1 < 2 ^ 36) → q ≡ code y → q < 2 ^ 41
low_code y q l e = omega arith

few_coded : (t : ℕ × ℕ → Bool) (xs : List (ℕ × ℕ)) → is_once xs ≡ true → ((y : ℕ × ℕ) → t y ≡ true → (y.0 < 32) × (y.1 < 2 ^ 36)) → count_by t xs ≤ 2 ^ 41
few_coded t xs once low =
    let h = coded t xs once (λ y e. (low y e).1) in
    subst (λ n. n ≤ 2 ^ 41) h.long (length-le_from_distinct_below h.codes (2 ^ 41) h.distinct (λ q k. let f = h.from q k in low_code f.0 q (low f.0 f.2) f.3))

-- no process past the last has a page
past_process : (x : Tables) (p v : ℕ) → length x.processes ≡ 32 → 32 ≤ p → place_of x p v ≡ Empty
past_process x p v n l = ap (λ m. place_in_table m v) (get_or_past x.processes p no_words (subst (λ k. k ≤ p) (sym n) l)) ∙ none_is_empty

module _ (c : Program) (s : Places) (x : Tables) (h : TablesShown c s.place s.placed x) where
  within : (test : Place → Bool) → test Empty ≡ false → (p v : ℕ) → test (s.place p v) ≡ true → (p < 32) × (v < 2 ^ 36)
  within test none p v e = by (cases_lt p 32) (cases_lt v (2 ^ 36))
    where
      by : (p < 32) ⊎ (32 ≤ p) → (v < 2 ^ 36) ⊎ (2 ^ 36 ≤ v) → (p < 32) × (v < 2 ^ 36)
      by (inl l) (inl m) = (l, m)
      by (inl l) (inr m) = absurd (true_false (test (s.place p v)) e (ap test (sym (past_place c s x p v h m)) ∙ none))
      by (inr l) m = absurd (true_false (test (s.place p v)) e (ap test (sym (h.places p v) ∙ past_process x p v h.tables.processes l) ∙ none))

  few_pages : (test : Place → Bool) → test Empty ≡ false → pages_where s test ≤ 2 ^ 41
  few_pages test none = few_coded (λ y. test (s.place y.0 y.1)) s.placed h.once (λ y e. within test none y.0 y.1 e)

  -- the shares of one frame and those that come to it
  few_shares : (test : Place → Bool) → test Empty ≡ false → ((shares_where s test).pages ≤ 2 ^ 41) × ((shares_where s test).writers ≤ 2 ^ 41)
  few_shares test none = (few_pages test none, few_pages (λ y. test y && writable y) (ap (λ b. b && false) none))

  few_of_page : (y : Place) → ((share_of y).pages ≤ 1) × ((share_of y).writers ≤ 1)
  few_of_page y = (omega arith, by (writable y))
    where
      by : (b : Bool) → one_if b ≤ 1
      by true = omega arith
      by false = omega arith

  fit : (a b more : Shares) → a ≡ b → (b.pages ≤ 2 ^ 41) × (b.writers ≤ 2 ^ 41) → (more.pages ≤ 2 ^ 41) × (more.writers ≤ 2 ^ 41) → (a.pages + more.pages < 2 ^ 64) × (a.writers + more.writers < 2 ^ 64)
  fit a b more e l m = subst (λ (z : Shares). (z.pages + more.pages < 2 ^ 64) × (z.writers + more.writers < 2 ^ 64)) (sym e) (omega (arith, l.0, m.0), omega (arith, l.1, m.1))

  pub page_fits : (F : Frame → Shares) (test : Frame → Place → Bool) → ((f : Frame) → test f Empty ≡ false) → ((f : Frame) → F f ≡ shares_where s (test f)) → (y : Place) → AllFit F (share_of y)
  page_fits F test none kept y f = let m = few_of_page y in fit (F f) (shares_where s (test f)) (share_of y) (kept f) (few_shares (test f) (none f)) (omega (arith, m.0), omega (arith, m.1))

  pub commit_fits : (F : Frame → Shares) → ((f : Frame) → F f ≡ shares_where s (is_backed s f)) → (g : Frame) (m : Shares) → m ≡ shares_where s (is_moving_of g) → AllFit F m
  commit_fits F kept g m e f = fit (F f) (shares_where s (is_backed s f)) m (kept f) (few_shares (is_backed s f) refl)
      (subst (λ (z : Shares). (z.pages ≤ 2 ^ 41) × (z.writers ≤ 2 ^ 41)) (sym e) (few_shares (is_moving_of g) refl))
