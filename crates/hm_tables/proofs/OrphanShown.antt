-- The frame that a place leaves behind.
use Rattle.std.proofs.Common.{◌≡◌, ℕ, suc, Bool, true, false, not, ◌&&◌, eqb, ◌==◌, cond, Option, Some, None, is_some, is_none, List, [], ◌∷◌, length, refl, sym, ap, ◌∙◌, arith}
use Rattle.std.proofs.lemmas.Bool.Decides.{nat_tests}
use Rattle.hm_base.specs.Program.{Program}
use Rattle.hm_base.specs.declared.Frame.{Frame}
use Rattle.hm_base.specs.declared.Place.{Place}
use Rattle.hm_base.specs.PlaceWords.{names, is_frame}
use Rattle.hm_history.specs.Memory.Places.{Places, with_page, with_place, places_next, lowest_named}
use Rattle.hm_history.specs.Memory.Locks.{Locks, left_behind, orphan}
use Rattle.hm_history.specs.declared.Kind.{Kind}
use Rattle.rev_maps.specs.declared.uses.Use.{Use}
use Rattle.rev_maps.specs.Uses.{without_use}
use Rattle.hm_tables.specs.Values.{Tables, place_of, uses_in, mark_by}
use Rattle.hm_tables.specs.Shown.{TablesShown}
use Rattle.hm_tables.specs.Reads.{use_count, orphaned}
use Rattle.hm_tables.proofs.Marks.{has_is, mark_cons, mark_without, length_without}
use Rattle.hm_tables.proofs.Lowest.{IsLowest, lowest_is}
use Rattle.hm_tables.proofs.TablesKept.{listed_next}
use Rattle.hm_tables.proofs.ReadsShown.{some_mark, named_mark, marked_used}
use Rattle.hm_tables.proofs.Truths.{page_itself}
use Rattle.hm_history.proofs.Tests.{true_false}
use Rattle.hm_history.proofs.Frames.{frame_itself}

-- one use less leaves none exactly where no page is left
last_use : (t : ℕ → ℕ → Bool) (out : List Use) (n : ℕ) → ((q u : ℕ) → is_some (mark_by q u out) ≡ t q u) → suc (length out) ≡ n → (y : Option (ℕ × ℕ)) → IsLowest t y → eqb n 1 ≡ is_none y
last_use t [] n exact e None h = one n e
  where
    one : (n : ℕ) → suc 0 ≡ n → eqb n 1 ≡ true
    one n e = grind (arith, nat_tests)
last_use t [] n exact e (Some z) h = absurd (true_false (t z.0 z.1) h.0 (sym (exact z.0 z.1)))
last_use t (w ∷ ws) n exact e None h = absurd (true_false (t w.proc w.page)
    (sym (exact w.proc w.page) ∙ ap is_some (mark_cons w ws w.proc w.page) ∙ ap (λ b. is_some (cond b (Some w.moving) (mark_by w.proc w.page ws))) (page_itself w.proc w.page)) (h w.proc w.page))
last_use t (w ∷ ws) n exact e (Some z) h = more (length ws) n e
  where
    more : (k n : ℕ) → suc (suc k) ≡ n → eqb n 1 ≡ false
    more k n e = grind (arith, nat_tests)

-- a page that names it after the change is left
named_still : (t : ℕ → ℕ → Bool) (p v : ℕ) → t p v ≡ true → (y : Option (ℕ × ℕ)) → IsLowest t y → false ≡ is_none y
named_still t p v k None h = absurd (true_false (t p v) k (h p v))
named_still t p v k (Some z) h = refl

pub still_named : (c : Program) (s : Places) (x : Tables) → TablesShown c s.place s.placed x → (p v : ℕ) (y : Place) (f : Frame) → names (s.place p v) ≡ Some f →
    (not (is_frame (names y) f) && (use_count x f == 1)) ≡ is_none (lowest_named (places_next s (Kind.Place p v y)) f)
still_named c s x h p v y f e = by (is_frame (names y) f) refl
  where
    used : (q u : ℕ) → is_some (mark_by q u (uses_in x.pools f).list) ≡ is_frame (names (s.place q u)) f
    used q u = ap is_some (h.tables.exact q u f) ∙ some_mark f (place_of x q u) ∙ ap (λ z. is_frame (names z) f) (h.places q u)

    named_here : is_frame (names (s.place p v)) f ≡ true
    named_here = ap (λ o. is_frame o f) e ∙ frame_itself f

    lowest_now : IsLowest (λ q u. is_frame (names (with_place s.place p v y q u)) f) (lowest_named (places_next s (Kind.Place p v y)) f)
    lowest_now = lowest_is (λ q u. is_frame (names (with_place s.place p v y q u)) f) (with_page p v s.placed)
        (λ q u k. listed_next s.place s.placed h.listed p v y q u (marked_used (λ moving. true) (with_place s.place p v y q u) f (named_mark f (with_place s.place p v y q u) ∙ k)))

    left : is_frame (names y) f ≡ false → (q u : ℕ) (b : Bool) → is_some (cond b None (mark_by q u (uses_in x.pools f).list)) ≡ is_frame (names (cond b y (s.place q u))) f
    left k q u true = sym k
    left k q u false = used q u

    by : (b : Bool) → is_frame (names y) f ≡ b → (not b && (use_count x f == 1)) ≡ is_none (lowest_named (places_next s (Kind.Place p v y)) f)
    by true k = named_still (λ q u. is_frame (names (with_place s.place p v y q u)) f) p v
        (ap (λ b. is_frame (names (cond b y (s.place p v))) f) (page_itself p v) ∙ k) (lowest_named (places_next s (Kind.Place p v y)) f) lowest_now
    by false k = last_use (λ q u. is_frame (names (with_place s.place p v y q u)) f) (without_use p v (uses_in x.pools f).list) (use_count x f)
        (λ q u. ap is_some (mark_without p v q u (uses_in x.pools f).list) ∙ left k q u (eqb q p && eqb u v))
        (length_without p v (uses_in x.pools f).list (h.tables.rising f) (has_is p v (uses_in x.pools f).list ∙ used p v ∙ named_here))
        (lowest_named (places_next s (Kind.Place p v y)) f) lowest_now

not_some : {X : Type 0} (o : Option X) → not (is_some o) ≡ is_none o
not_some None = refl
not_some (Some a) = refl

pub orphan_shown : (c : Program) (l : Locks) (s : Places) (x : Tables) → TablesShown c s.place s.placed x → (p v : ℕ) (old y : Place) (is_locked : Bool) → old ≡ s.place p v → ((f : Frame) → names old ≡ Some f → is_locked ≡ is_some (l.frame f)) →
    orphaned x (names old) y is_locked ≡ orphan l s (Kind.Place p v y)
orphan_shown c l s x h p v old y is_locked e locks = ap (λ z. orphaned x (names z) y is_locked) e ∙ by (names (s.place p v)) refl
  where
    by : (o : Option Frame) → names (s.place p v) ≡ o → orphaned x o y is_locked ≡ left_behind l (places_next s (Kind.Place p v y)) o
    by None e = refl
    by (Some f) q =
        ap (λ b. cond (not b && (not (is_frame (names y) f) && (use_count x f == 1))) (Some f) None) (locks f (ap names e ∙ q))
        ∙ ap (λ b. cond (b && (not (is_frame (names y) f) && (use_count x f == 1))) (Some f) None) (not_some (l.frame f))
        ∙ ap (λ b. cond (is_none (l.frame f) && b) (Some f) None) (still_named c s x h p v y f q)
