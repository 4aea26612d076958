-- How many processes name a frame on a page, at a `place`.
use Rattle.std.proofs.Common.{◌≡◌, ℕ, zero, suc, ◌+◌, ◌*◌, ◌<◌, ◌≤◌, ◌⊎◌, inl, inr, Bool, true, false, if◌then◌else◌, Option, Some, None, refl, sym, ap, ◌∙◌, arith}
use Rattle.std.proofs.Math.Nat.{mul-le-mul_right}
use Rattle.std.proofs.lemmas.Bool.Decides.{nat_tests}
use Rattle.std.proofs.lemmas.Bool.{cases_eq}
use Rattle.hm_base.specs.Program.{Program}
use Rattle.hm_base.specs.declared.Frame.{Frame}
use Rattle.hm_base.specs.declared.Place.{Place}
use Rattle.hm_history.specs.Memory.Words.{names, names_directly, moving_frame, is_frame, is_empty_place}
use Rattle.hm_history.specs.Memory.Places.{with_place, lowest}
use Rattle.hm_history.specs.Memory.After.{After}
use Rattle.hm_history.proofs.Tests.{true_false}
use Rattle.hm_history.proofs.Frames.{is_frame_from, is_frame_of}
use Rattle.hm_laws.specs.Past.{Past}
use Rattle.hm_laws.specs.Sound.{Sound}
use Rattle.hm_laws.proofs.State.Search.{lowest_none}
use Rattle.hm_laws.proofs.Kept.PlaceLocks.{lowest_passes}
use Rattle.hm_laws.proofs.Due.Spans.{this_page}
use Rattle.hm_quiet_laws.proofs.measure.Left.{View, view, placed_view, count_upto, direct_at, moving_at, frame_page}
use Rattle.hm_quiet_laws.proofs.counts.CountsBelow.{count_more, count_less}

-- a test that differs at one number
plus_one : (m n : ℕ) (b d : Bool) → m ≤ n → m + (if b then 1 else 0) ≤ (n + (if d then 1 else 0)) + 1
plus_one m n true true h = omega arith
plus_one m n true false h = omega arith
plus_one m n false true h = omega arith
plus_one m n false false h = omega arith

plus_same : (m n : ℕ) (b d : Bool) → m ≤ n + 1 → (b ≡ true → d ≡ true) → m + (if b then 1 else 0) ≤ (n + (if d then 1 else 0)) + 1
plus_same m n true true h f = omega arith
plus_same m n true false h f = absurd (true_false false (f refl) refl)
plus_same m n false true h f = omega arith
plus_same m n false false h f = omega arith

pub count_plus : (t w : ℕ → Bool) (n i : ℕ) → ((k : ℕ) → (k ≡ i → ⊥) → t k ≡ true → w k ≡ true) → count_upto t n ≤ count_upto w n + 1
count_plus t w zero i f = omega arith
count_plus t w (suc n) i f = by (cases_eq n i) (count_plus t w n i f)
  where
    less : (k : ℕ) → k < n → k ≡ n → ⊥
    less k l e = omega (arith, l, e)

    by : (n ≡ i) ⊎ (n ≡ i → ⊥) → count_upto t n ≤ count_upto w n + 1 → count_upto t n + (if t n then 1 else 0) ≤ (count_upto w n + (if w n then 1 else 0)) + 1
    by (inl e) ih = plus_one (count_upto t n) (count_upto w n) (t n) (w n) (count_more t w n (λ k l h. f k (λ j. less k l (j ∙ sym e)) h))
    by (inr ne) ih = plus_same (count_upto t n) (count_upto w n) (t n) (w n) ih (f n ne)

-- places on a page
other_process : (place : ℕ → ℕ → Place) (p v : ℕ) (x : Place) (q : ℕ) → (q ≡ p → ⊥) → with_place place p v x q v ≡ place q v
other_process place p v x q ne = grind (arith, nat_tests)

pub other_page : (place : ℕ → ℕ → Place) (p v : ℕ) (x : Place) (q u : ℕ) → (u ≡ v → ⊥) → with_place place p v x q u ≡ place q u
other_page place p v x q u ne = grind (arith, nat_tests)

-- frozen: one fewer names it directly, and at most one more does as under way
pub direct_frozen : (y : View) (p v : ℕ) (f : Frame) (w : Bool) → p < 32 → is_frame (names_directly (y.place p v)) f ≡ true → direct_at (placed_view y p v (Place.Moving f w)) f v + 1 ≤ direct_at y f v
direct_frozen y p v f w l e = omega (arith, count_less (λ q. is_frame (names_directly (with_place y.place p v (Place.Moving f w) q v)) f) (λ q. is_frame (names_directly (y.place q v)) f) 32 p (λ k m h. by k (cases_eq k p) h) l (ap (λ z. is_frame (names_directly z) f) (this_page y.place p v (Place.Moving f w))) e)
  where
    by : (k : ℕ) → (k ≡ p) ⊎ (k ≡ p → ⊥) → is_frame (names_directly (with_place y.place p v (Place.Moving f w) k v)) f ≡ true → is_frame (names_directly (y.place k v)) f ≡ true
    by k (inl i) h = ap (λ q. is_frame (names_directly (y.place q v)) f) i ∙ e
    by k (inr ne) h = sym (ap (λ z. is_frame (names_directly z) f) (other_process y.place p v (Place.Moving f w) k ne)) ∙ h

pub moving_frozen : (y : View) (p v : ℕ) (f : Frame) (x : Place) → moving_at (placed_view y p v x) f v ≤ moving_at y f v + 1
moving_frozen y p v f x = count_plus (λ q. is_frame (moving_frame (with_place y.place p v x q v)) f) (λ q. is_frame (moving_frame (y.place q v)) f) 32 p (λ k ne h. sym (ap (λ z. is_frame (moving_frame z) f) (other_process y.place p v x k ne)) ∙ h)

-- returned: one fewer is under way
pub moving_returned : (y : View) (p v : ℕ) (f : Frame) (x : Place) → p < 32 → is_frame (moving_frame (y.place p v)) f ≡ true → is_frame (moving_frame x) f ≡ false → moving_at (placed_view y p v x) f v + 1 ≤ moving_at y f v
moving_returned y p v f x l e n = omega (arith, count_less (λ q. is_frame (moving_frame (with_place y.place p v x q v)) f) (λ q. is_frame (moving_frame (y.place q v)) f) 32 p (λ k m h. by k (cases_eq k p) h) l (ap (λ z. is_frame (moving_frame z) f) (this_page y.place p v x) ∙ n) e)
  where
    by : (k : ℕ) → (k ≡ p) ⊎ (k ≡ p → ⊥) → is_frame (moving_frame (with_place y.place p v x k v)) f ≡ true → is_frame (moving_frame (y.place k v)) f ≡ true
    by k (inl i) h = ap (λ q. is_frame (moving_frame (y.place q v)) f) i ∙ e
    by k (inr ne) h = sym (ap (λ z. is_frame (moving_frame z) f) (other_process y.place p v x k ne)) ∙ h

-- the page of a frame that is named
pub page_is : (c : Program) (s : After) (t : Past) (q u : ℕ) (f : Frame) → Sound c s t → names (s.places.place q u) ≡ Some f → frame_page (view s) f ≡ u
page_is c s t q u f so e = by (lowest (λ p v. is_frame (names (s.places.place p v)) f) s.places.placed) refl
  where
    not_empty : (x : Place) → names x ≡ Some f → is_empty_place x ≡ false
    not_empty x h = grind arith

    by : (x : Option (ℕ × ℕ)) → lowest (λ p v. is_frame (names (s.places.place p v)) f) s.places.placed ≡ x → (elim x as (λ z. ℕ) [ None ↦ 0 | Some z ↦ z.1 ]) ≡ u
    by None i = absurd (true_false (is_frame (names (s.places.place q u)) f) (is_frame_of (names (s.places.place q u)) f e) (lowest_none (λ p v. is_frame (names (s.places.place p v)) f) s.places.placed q u i (so.places.listed q u (not_empty (s.places.place q u) e))))
    by (Some z) i = so.frames.one_page q u z.0 z.1 f e (is_frame_from (names (s.places.place z.0 z.1)) f (lowest_passes (λ p v. is_frame (names (s.places.place p v)) f) s.places.placed z i))

-- the entries of bringing a frame home, after its first mapping is found
pub home_fits : (u d m g t : ℕ) → d + 1 ≤ u → d + m ≤ u → t + 2 ≤ g → t + 2 + (d * (g + 1) + d + m + 12) < u * (g + 2) + 12
home_fits u d m g t h i j = omega (arith, mul-le-mul_right (g + 1) h, parts u g, one d g)
  where
    parts : (u g : ℕ) → u * (g + 2) ≡ u * (g + 1) + u
    parts u g = grind arith

    one : (d g : ℕ) → (d + 1) * (g + 1) ≡ d * (g + 1) + (g + 1)
    one d g = grind arith
