-- What is read of the bytes of frames after some were written over.
use Rattle.std.proofs.Common.{◌≡◌, ◌≢◌, ℕ, zero, suc, ◌+◌, ◌-◌, ◌*◌, ◌%◌, ◌<◌, ◌≤◌, Some, None, List, [], ◌∷◌, length, get_or, take, drop, replicate, refl, sym, ap, ◌∙◌, arith, ◌⊎◌, inl, inr}
use Rattle.std.proofs.lemmas.Bool.{cases_eq, cases_lt}
use Rattle.std.proofs.lemmas.Bool.Decides.{nat_tests}
use Rattle.std.proofs.lemmas.List.{get_or-take, get_or-drop}
use Rattle.hm_history.specs.Memory.Words.{with_at, bytes_from, page_of}
use Rattle.hm_history.specs.Memory.Plain.{with_bytes}
use Rattle.hm_history.specs.Memory.Contents.{with_piece, with_part_copied, zeros}
use Rattle.frame_pool.specs.Frames.{overwritten, part_of, zero_frame}
use Rattle.frame_pool.proofs.Overwrites.{get_overwritten_below, get_overwritten_in, get_overwritten_past, zero_frame_length}

written_below : (f : ℕ → ℕ) (at : ℕ) (ys : List ℕ) (k : ℕ) → k < at → with_bytes f at ys k ≡ f k
written_below f at ys k l = grind (arith, nat_tests)

written_in : (f : ℕ → ℕ) (at : ℕ) (ys : List ℕ) (k : ℕ) → at ≤ k → k < at + length ys → with_bytes f at ys k ≡ get_or ys (k - at) 0
written_in f at ys k l m = grind (arith, nat_tests)

written_past : (f : ℕ → ℕ) (at : ℕ) (ys : List ℕ) (k : ℕ) → at + length ys ≤ k → with_bytes f at ys k ≡ f k
written_past f at ys k l = grind (arith, nat_tests)

pub get_overwritten : (xs : List ℕ) (at : ℕ) (ys : List ℕ) (k : ℕ) → at + length ys ≤ length xs → get_or (overwritten xs at ys) k 0 ≡ with_bytes (λ i. get_or xs i 0) at ys k
get_overwritten xs at ys k l = by (cases_lt k at) (cases_lt k (at + length ys))
  where
    by : (k < at) ⊎ (at ≤ k) → (k < at + length ys) ⊎ (at + length ys ≤ k) → get_or (overwritten xs at ys) k 0 ≡ with_bytes (λ i. get_or xs i 0) at ys k
    by (inl p) q = get_overwritten_below xs at ys k (omega arith) p ∙ sym (written_below (λ i. get_or xs i 0) at ys k p)
    by (inr p) (inl q) = get_overwritten_in xs at ys k (omega arith) p q ∙ sym (written_in (λ i. get_or xs i 0) at ys k p q)
    by (inr p) (inr q) = get_overwritten_past xs at ys k (omega arith) q ∙ sym (written_past (λ i. get_or xs i 0) at ys k q)

-- a write in the row of all frames is one at the frame's own offsets
shift_written : (f g : ℕ → ℕ) (base at : ℕ) (ys : List ℕ) (o : ℕ) → f (base + o) ≡ g o → with_bytes f (base + at) ys (base + o) ≡ with_bytes g at ys o
shift_written f g base at ys o e = by (cases_lt o at) (cases_lt o (at + length ys))
  where
    back : base + o - (base + at) ≡ o - at
    back = omega arith

    by : (o < at) ⊎ (at ≤ o) → (o < at + length ys) ⊎ (at + length ys ≤ o) → with_bytes f (base + at) ys (base + o) ≡ with_bytes g at ys o
    by (inl p) q = written_below f (base + at) ys (base + o) (omega arith) ∙ e ∙ sym (written_below g at ys o p)
    by (inr p) (inl q) = written_in f (base + at) ys (base + o) (omega arith) (omega arith) ∙ ap (λ i. get_or ys i 0) back ∙ sym (written_in g at ys o p q)
    by (inr p) (inr q) = written_past f (base + at) ys (base + o) (omega arith) ∙ e ∙ sym (written_past g at ys o q)

other_below : (m b o at : ℕ) → b < m → o < 4096 → b * 4096 + o < m * 4096 + at
other_below m b o at l k = omega arith

other_past : (m b o at n : ℕ) → m < b → at + n ≤ 4096 → m * 4096 + at + n ≤ b * 4096 + o
other_past m b o at n l k = omega arith

-- the bytes of frame b after a write in frame m, where h is what the write leaves there
pub in_frame : (xs ys : List ℕ) (m at : ℕ) (g : ℕ → ℕ → ℕ) (h : ℕ → ℕ) (b o : ℕ) → m * 4096 + 4096 ≤ length xs → at + length ys ≤ 4096 → o < 4096 →
    ((n i : ℕ) → i < 4096 → get_or xs (n * 4096 + i) 0 ≡ g n i) → ((i : ℕ) → i < 4096 → h i ≡ with_bytes (g m) at ys i) →
    get_or (overwritten xs (m * 4096 + at) ys) (b * 4096 + o) 0 ≡ with_at g m h b o
in_frame xs ys m at g h b o e l k s w = get_overwritten xs (m * 4096 + at) ys (b * 4096 + o) (omega arith) ∙ by (cases_eq b m) (cases_lt b m)
  where
    raw : ℕ → ℕ
    raw i = get_or xs i 0

    here : with_at g m h m o ≡ h o
    here = grind (arith, nat_tests)

    other : b ≢ m → with_at g m h b o ≡ g b o
    other d = grind (arith, nat_tests)

    by : (b ≡ m) ⊎ (b ≢ m) → (b < m) ⊎ (m ≤ b) → with_bytes raw (m * 4096 + at) ys (b * 4096 + o) ≡ with_at g m h b o
    by (inl p) q = rw p (shift_written raw (g m) (m * 4096) at ys o (s m o k) ∙ sym (w o k) ∙ sym here)
    by (inr p) (inl q) = written_below raw (m * 4096 + at) ys (b * 4096 + o) (other_below m b o at q k) ∙ s b o k ∙ sym (other p)
    by (inr p) (inr q) = written_past raw (m * 4096 + at) ys (b * 4096 + o) (other_past m b o at (length ys) (omega arith) l) ∙ s b o k ∙ sym (other p)

-- what each write leaves

zeros_at : (n k : ℕ) → ◌≡◌ {A = ℕ} (get_or (replicate n 0) k 0) 0
zeros_at zero k = refl
zeros_at (suc n) zero = refl
zeros_at (suc n) (suc k) = zeros_at n k

zero_frame_at : (k : ℕ) → get_or zero_frame k 0 ≡ 0
unfolding zero_frame
zero_frame_at k = zeros_at 4096 k

pub zeroed : (f : ℕ → ℕ) (o : ℕ) → o < 4096 → zeros o ≡ with_bytes f 0 zero_frame o
zeroed f o l = sym (written_in f 0 zero_frame o (omega arith) (omega (arith, zero_frame_length)) ∙ zero_frame_at (o - 0))

pub stored : (f : ℕ → ℕ) (at : ℕ) (bs : List ℕ) (o : ℕ) → with_piece f at bs o ≡ with_bytes f (at % 4096) bs o
stored f at bs o = ap (λ i. with_bytes (λ x. f o) i bs (page_of at * 4096 + o)) split ∙ shift_written (λ x. f o) f (page_of at * 4096) (at % 4096) bs o refl
  where
    split : at ≡ page_of at * 4096 + at % 4096
    split = omega arith

-- so many bytes from there on
pub get_part : (xs : List ℕ) (at n k : ℕ) → k < n → get_or (part_of xs at n) k 0 ≡ get_or xs (at + k) 0
get_part xs at n k l = let e : at + n - at ≡ n = omega arith in ap (λ i. get_or (take i (drop at xs)) k 0) e ∙ get_or-take n (drop at xs) k 0 l ∙ get_or-drop at xs k 0

-- a piece that was copied
pub copied_whole : (f g : ℕ → ℕ) (ys : List ℕ) (o : ℕ) → length ys ≡ 4096 → o < 4096 → ((k : ℕ) → k < 4096 → get_or ys k 0 ≡ f k) → with_part_copied f g None o ≡ with_bytes g 0 ys o
copied_whole f g ys o e l h = sym (written_in g 0 ys o (omega arith) (omega arith) ∙ h (o - 0) (omega arith) ∙ ap f back)
  where
    back : o - 0 ≡ o
    back = omega arith

pub copied_part : (f g : ℕ → ℕ) (ys : List ℕ) (p o : ℕ) → length ys ≡ 512 → ((k : ℕ) → k < 512 → get_or ys k 0 ≡ f (p * 512 + k)) → with_part_copied f g (Some p) o ≡ with_bytes g (p * 512) ys o
copied_part f g ys p o e h = by (cases_lt o (p * 512)) (cases_lt o (p * 512 + 512))
  where
    by : (o < p * 512) ⊎ (p * 512 ≤ o) → (o < p * 512 + 512) ⊎ (p * 512 + 512 ≤ o) → with_part_copied f g (Some p) o ≡ with_bytes g (p * 512) ys o
    by (inl a) b = grind (arith, nat_tests, written_below g (p * 512) ys o a)
    by (inr a) (inl b) = let back : p * 512 + (o - p * 512) ≡ o = omega arith in
        grind (arith, nat_tests) ∙ sym (written_in g (p * 512) ys o a (omega arith) ∙ h (o - p * 512) (omega arith) ∙ ap f back)
    by (inr a) (inr b) = grind (arith, nat_tests, written_past g (p * 512) ys o (omega arith))

-- the bytes of a list, from a place on, are those of a function
pub bytes_are : (f : ℕ → ℕ) (ys : List ℕ) (at : ℕ) → ((k : ℕ) → k < length ys → get_or ys k 0 ≡ f (at + k)) → ys ≡ bytes_from f at (length ys)
bytes_are f [] at h = refl
bytes_are f (y ∷ ys) at h = by (bytes_are f ys (at + 1) later)
  where
    later : (k : ℕ) → k < length ys → get_or ys k 0 ≡ f (at + 1 + k)
    later k l = let e : at + suc k ≡ at + 1 + k = omega arith in h (suc k) (omega arith) ∙ ap f e

    here : y ≡ f at
    here = let e : at + 0 ≡ at = omega arith in h 0 (omega arith) ∙ ap f e

    by : ys ≡ bytes_from f (at + 1) (length ys) → y ∷ ys ≡ f at ∷ bytes_from f (at + 1) (length ys)
    by e = cc (e, here)
