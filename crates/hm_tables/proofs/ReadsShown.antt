-- What is read of the tables is what the history's definitions say of the places.
use Rattle.std.proofs.Common.{◌≡◌, ℕ, Bool, true, false, not, ◌&&◌, eqb, leb, cond, Option, Some, None, is_some, option_map, refl, sym, ap, ◌∙◌}
use Rattle.std.specs.Prelude.{find}
use Rattle.std.specs.List.{list_any}
use Rattle.std.proofs.lemmas.Bool.{eqb-true, and_parts, and_right}
use Rattle.hm_base.specs.Program.{Program}
use Rattle.hm_base.specs.declared.Frame.{Frame}
use Rattle.hm_base.specs.declared.Place.{Place}
use Rattle.hm_base.specs.declared.Place.TheVariants.{Empty, Zero, Sys, Own, Moving, Exclusive}
use Rattle.hm_base.specs.PlaceWords.{names, names_directly, moving_frame, is_frame, is_empty_place}
use Rattle.hm_history.specs.Memory.Places.{Places, is_page, lowest, lowest_direct, lowest_moving, lowest_named, uses, next_page}
use Rattle.hm_tables.specs.declared.places.PageTest.{PageTest}
use Rattle.hm_tables.specs.declared.places.PageTest.TheVariants.{Used, Writable}
use Rattle.hm_tables.specs.Values.{Tables, table_of, place_of, place_of_word, uses_in, is_moving, mark_by, mark_of}
use Rattle.hm_tables.specs.Shown.{TablesShown}
use Rattle.hm_tables.specs.Reads.{page_test, next_page_of, lowest_of, use_count}
use Rattle.hm_tables.proofs.Words.{none_is_empty}
use Rattle.hm_tables.proofs.Lowest.{one_lowest, lowest_same, lowest_is}
use Rattle.hm_tables.proofs.FirstUse.{mark_passes, first_lowest}
use Rattle.hm_tables.proofs.Counts.{count_is}
use Rattle.hm_tables.proofs.NextWord.{page_passes, next_lowest}
use Rattle.std.proofs.Math.Bool.{and-true}

-- a place that has a mark is one
pub marked_used : (test : Bool → Bool) (x : Place) (f : Frame) → mark_passes test (mark_of x f) ≡ true → is_empty_place x ≡ false
marked_used test Empty f h = cc
marked_used test Zero f h = refl
marked_used test (Sys n w) f h = refl
marked_used test (Own d n w) f h = refl
marked_used test (Moving g w) f h = refl
marked_used test (Exclusive n a) f h = refl

-- a test of places that says what a test of marks does
pub lowest_shown : (c : Program) (s : Places) (x : Tables) → TablesShown c s.place s.placed x → (test : Bool → Bool) (f : Frame) (t : Place → Bool) → ((y : Place) → mark_passes test (mark_of y f) ≡ t y) →
    lowest_of x test f ≡ lowest (λ p v. t (s.place p v)) s.placed
lowest_shown c s x h test f t same =
    one_lowest (λ p v. t (s.place p v)) (lowest_of x test f) (lowest (λ p v. t (s.place p v)) s.placed)
    (lowest_same (λ p v. mark_passes test (mark_by p v (uses_in x.pools f).list)) (λ p v. t (s.place p v)) says (lowest_of x test f) (first_lowest test (uses_in x.pools f).list (h.tables.rising f)))
    (lowest_is (λ p v. t (s.place p v)) s.placed (λ p v k. h.listed p v (marked_used test (s.place p v) f (same (s.place p v) ∙ k))))
  where
    says : (p v : ℕ) → mark_passes test (mark_by p v (uses_in x.pools f).list) ≡ t (s.place p v)
    says p v = ap (mark_passes test) (h.tables.exact p v f) ∙ same (place_of x p v) ∙ ap t (h.places p v)

by_mark : (test : Bool → Bool) (b m : Bool) → mark_passes test (cond b (Some m) None) ≡ b && test m
by_mark test true m = refl
by_mark test false m = refl

direct_mark : (f : Frame) (y : Place) → mark_passes not (mark_of y f) ≡ is_frame (names_directly y) f
direct_mark f Empty = refl
direct_mark f Zero = refl
direct_mark f (Sys n w) = by_mark not (is_frame (names (Sys n w)) f) false ∙ and-true (is_frame (names (Sys n w)) f)
direct_mark f (Own d n w) = by_mark not (is_frame (names (Own d n w)) f) false ∙ and-true (is_frame (names (Own d n w)) f)
direct_mark f (Moving g w) = by_mark not (is_frame (names (Moving g w)) f) true ∙ (and_right (is_frame (names (Moving g w)) f) false refl)
direct_mark f (Exclusive n a) = by_mark not (is_frame (names (Exclusive n a)) f) false ∙ and-true (is_frame (names (Exclusive n a)) f)

moving_mark : (f : Frame) (y : Place) → mark_passes (λ moving. moving) (mark_of y f) ≡ is_frame (moving_frame y) f
moving_mark f Empty = refl
moving_mark f Zero = refl
moving_mark f (Sys n w) = by_mark (λ moving. moving) (is_frame (names (Sys n w)) f) false ∙ (and_right (is_frame (names (Sys n w)) f) false refl)
moving_mark f (Own d n w) = by_mark (λ moving. moving) (is_frame (names (Own d n w)) f) false ∙ (and_right (is_frame (names (Own d n w)) f) false refl)
moving_mark f (Moving g w) = by_mark (λ moving. moving) (is_frame (names (Moving g w)) f) true ∙ and-true (is_frame (names (Moving g w)) f)
moving_mark f (Exclusive n a) = by_mark (λ moving. moving) (is_frame (names (Exclusive n a)) f) false ∙ (and_right (is_frame (names (Exclusive n a)) f) false refl)

pub named_mark : (f : Frame) (y : Place) → mark_passes (λ moving. true) (mark_of y f) ≡ is_frame (names y) f
named_mark f y = by_mark (λ moving. true) (is_frame (names y) f) (is_moving y) ∙ and-true (is_frame (names y) f)

pub lowest_direct_shown : (c : Program) (s : Places) (x : Tables) → TablesShown c s.place s.placed x → (f : Frame) → lowest_of x not f ≡ lowest_direct s f
lowest_direct_shown c s x h f = lowest_shown c s x h not f (λ y. is_frame (names_directly y) f) (direct_mark f)

pub lowest_moving_shown : (c : Program) (s : Places) (x : Tables) → TablesShown c s.place s.placed x → (f : Frame) → lowest_of x (λ moving. moving) f ≡ lowest_moving s f
lowest_moving_shown c s x h f = lowest_shown c s x h (λ moving. moving) f (λ y. is_frame (moving_frame y) f) (moving_mark f)

pub lowest_named_shown : (c : Program) (s : Places) (x : Tables) → TablesShown c s.place s.placed x → (f : Frame) → lowest_of x (λ moving. true) f ≡ lowest_named s f
lowest_named_shown c s x h f = lowest_shown c s x h (λ moving. true) f (λ y. is_frame (names y) f) (named_mark f)

pub some_mark : (f : Frame) (y : Place) → is_some (mark_of y f) ≡ is_frame (names y) f
some_mark f y = by (is_frame (names y) f)
  where
    by : (b : Bool) → is_some (cond b (Some (is_moving y)) None) ≡ b
    by true = refl
    by false = refl

pub uses_shown : (c : Program) (s : Places) (x : Tables) → TablesShown c s.place s.placed x → (f : Frame) → use_count x f ≡ uses s f
uses_shown c s x h f =
    count_is (λ p v. is_frame (names (s.place p v)) f) (uses_in x.pools f).list s.placed (h.tables.rising f) h.once
    (λ p v. ap is_some (h.tables.exact p v f) ∙ some_mark f (place_of x p v) ∙ ap (λ y. is_frame (names y) f) (h.places p v))
    (λ p v k. h.listed p v (marked_used (λ moving. true) (s.place p v) f (named_mark f (s.place p v) ∙ k)))

-- the next page whose place passes

tests_used : (w : PageTest) (y : Place) → page_test w y ≡ true → is_empty_place y ≡ false
tests_used Used Empty h = cc
tests_used Used Zero h = refl
tests_used Used (Sys n w) h = refl
tests_used Used (Own d n w) h = refl
tests_used Used (Moving g w) h = refl
tests_used Used (Exclusive n a) h = refl
tests_used Writable Empty h = cc
tests_used Writable Zero h = refl
tests_used Writable (Sys n w) h = refl
tests_used Writable (Own d n w) h = refl
tests_used Writable (Moving g w) h = refl
tests_used Writable (Exclusive n a) h = refl

not_empty : (w : PageTest) → page_test w Empty ≡ false
not_empty Used = refl
not_empty Writable = refl

pub next_page_shown : (c : Program) (s : Places) (x : Tables) → TablesShown c s.place s.placed x → (w : PageTest) (p from : ℕ) → next_page_of x (page_test w) p from ≡ next_page s (page_test w) p from
next_page_shown c s x h w p from = page_of (find (λ e. leb from e.0 && page_test w (place_of_word e.1)) (table_of x p).words) refl
  where
    says : (q u : ℕ) (b : Bool) → eqb q p ≡ b → (b && (leb from u && page_test w (place_of x p u))) ≡ (b && (leb from u && page_test w (s.place q u)))
    says q u true e = ap (λ y. leb from u && page_test w y) (ap (λ r. place_of x r u) (sym (eqb-true q p e)) ∙ h.places q u)
    says q u false e = refl

    listed : (q u : ℕ) → (eqb q p && (leb from u && page_test w (s.place q u))) ≡ true → list_any (is_page q u) s.placed ≡ true
    listed q u k = h.listed q u (tests_used w (s.place q u) (and_parts (leb from u) (page_test w (s.place q u)) (and_parts (eqb q p) (leb from u && page_test w (s.place q u)) k).1).1)

    page : Option (ℕ × ℕ) → Option ℕ
    page o = elim o [ None ↦ None | Some z ↦ Some z.1 ]

    same : option_map (λ e. (p, e.0)) (find (λ e. leb from e.0 && page_test w (place_of_word e.1)) (table_of x p).words) ≡ lowest (λ q u. eqb q p && (leb from u && page_test w (s.place q u))) s.placed
    same =
        one_lowest (λ q u. eqb q p && (leb from u && page_test w (s.place q u))) (option_map (λ e. (p, e.0)) (find (λ e. leb from e.0 && page_test w (place_of_word e.1)) (table_of x p).words)) (lowest (λ q u. eqb q p && (leb from u && page_test w (s.place q u))) s.placed)
        (lowest_same (page_passes (λ n. page_test w (place_of_word n)) (table_of x p).words p from) (λ q u. eqb q p && (leb from u && page_test w (s.place q u))) (λ q u. says q u (eqb q p) refl)
        (option_map (λ e. (p, e.0)) (find (λ e. leb from e.0 && page_test w (place_of_word e.1)) (table_of x p).words))
        (next_lowest (λ n. page_test w (place_of_word n)) (ap (page_test w) none_is_empty ∙ not_empty w) (table_of x p).words (h.tables.ordered p).sorted p from))
        (lowest_is (λ q u. eqb q p && (leb from u && page_test w (s.place q u))) s.placed listed)

    page_of : (o : Option (ℕ × ℕ)) → find (λ e. leb from e.0 && page_test w (place_of_word e.1)) (table_of x p).words ≡ o → option_map (λ (e : ℕ × ℕ). e.0) o ≡ next_page s (page_test w) p from
    page_of None e = ap page (ap (option_map (λ (e : ℕ × ℕ). (p, e.0))) (sym e) ∙ same)
    page_of (Some z) e = ap page (ap (option_map (λ (e : ℕ × ℕ). (p, e.0))) (sym e) ∙ same)
