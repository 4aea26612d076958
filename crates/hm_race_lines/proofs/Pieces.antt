-- The pieces of accesses, and how many bytes an answer has.
use Rattle.std.proofs.Common.{◌≡◌, ℕ, zero, suc, ◌+◌, ◌-◌, ◌%◌, ◌≤◌, ◌<◌, ◌⊎◌, inl, inr, Bool, true, false, ◌==◌, if◌then◌else◌, nat_lt, List, [], ◌∷◌, length, take, drop, refl, sym, ap, ◌∙◌, arith}
use Rattle.std.proofs.lemmas.Bool.Decides.{nat_tests}
use Rattle.hm_history.specs.Memory.Words.{first_len, pieces}
use Rattle.hm_history.specs.Kernel.Operation.{bytes_of, piece_at}

-- a piece that is there is the first or the second, has bytes, and lies within the access
pub record IsPiece (at n : ℕ) (piece : ℕ × ℕ) (k : ℕ) : Type 0 where
  pub number : (k ≡ 0) ⊎ (k ≡ 1)
  pub some : nat_lt 0 piece.1 ≡ true
  pub within : (piece.0 - at) + piece.1 ≤ n

pub is_piece : (at n k : ℕ) → 1 ≤ n → nat_lt k (length (pieces at n)) ≡ true → IsPiece at n (piece_at (pieces at n) k) k
is_piece at n k some there = by (first_len at n) (first at n some) (first_len at n == n) refl there
  where
    first : (at n : ℕ) → 1 ≤ n → (1 ≤ first_len at n) × (first_len at n ≤ n)
    first at n some = (grind (arith, nat_tests), grind (arith, nat_tests))

    low : (k m : ℕ) → nat_lt k m ≡ true → k < m
    low k m h = grind (arith, nat_tests)

    more : (m : ℕ) → 1 ≤ m → nat_lt 0 m ≡ true
    more m h = grind (arith, nat_tests)

    other : (m : ℕ) → (m == n) ≡ false → m ≡ n → ⊥
    other m e h = grind (arith, nat_tests)

    two : (m : ℕ) → 1 ≤ m → m < n → (k : ℕ) → (k ≡ 0) ⊎ (k ≡ 1) → IsPiece at n (piece_at ((at, m) ∷ (at + m, n - m) ∷ []) k) k
    two m a b zero h = record { number = inl refl; some = more m a; within = omega arith }
    two m a b (suc zero) h = record { number = inr refl; some = more (n - m) (omega arith); within = omega arith }
    two m a b (suc (suc k)) (inl h) = absurd (omega arith)
    two m a b (suc (suc k)) (inr h) = absurd (omega arith)

    one : (k : ℕ) → k < 1 → IsPiece at n (piece_at ((at, n) ∷ []) k) k
    one zero h = record { number = inl refl; some = more n some; within = omega arith }
    one (suc k) h = absurd (omega arith)

    below : (k : ℕ) → k < 2 → (k ≡ 0) ⊎ (k ≡ 1)
    below zero h = inl refl
    below (suc zero) h = inr refl
    below (suc (suc k)) h = absurd (omega arith)

    by : (m : ℕ) → (1 ≤ m) × (m ≤ n) → (b : Bool) → (m == n) ≡ b → nat_lt k (length {A = ℕ × ℕ} (if b then (at, n) ∷ [] else ((at, m) ∷ (at + m, n - m) ∷ []))) ≡ true
        → IsPiece at n (piece_at (if b then (at, n) ∷ [] else ((at, m) ∷ (at + m, n - m) ∷ [])) k) k
    by m f true e t = one k (low k 1 t)
    by m f false e t = let less : m < n = omega (arith, f.1, other m e) in two m f.0 less k (below k (low k 2 t))

take_length : (bs : List ℕ) (n : ℕ) → n ≤ length bs → length (take n bs) ≡ n
take_length bs zero h = refl
take_length [] (suc n) h = absurd (omega arith)
take_length (b ∷ bs) (suc n) h = ap suc (take_length bs n (omega arith))

drop_long : (bs : List ℕ) (i n : ℕ) → i + n ≤ length bs → n ≤ length (drop i bs)
drop_long bs zero n h = omega arith
drop_long [] (suc i) n h = omega arith
drop_long (b ∷ bs) (suc i) n h = drop_long bs i n (omega arith)

pub bytes_of_length : (at : ℕ) (bs : List ℕ) (piece : ℕ × ℕ) (k : ℕ) → IsPiece at (length bs) piece k → length (bytes_of at bs piece) ≡ piece.1
bytes_of_length at bs piece k is = take_length (drop (piece.0 - at) bs) piece.1 (drop_long bs (piece.0 - at) piece.1 is.within)
