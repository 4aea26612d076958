-- Words on addresses, frames and places.
use Rattle.std.specs.Prelude.{ℕ, ◌+◌, ◌-◌, ◌/◌, ◌%◌, suc, zero, Bool, true, false, ◌&&◌, nat_le, ◌==◌, if◌then◌else◌}
use Rattle.std.specs.Prelude.{Option, Some, None, List, [], ◌∷◌}
pub use Rattle.hm_base.specs.PlaceWords.{sys_frame, dev_frame, same_pool, same_frame, is_frame, with_frame, names}
pub use Rattle.hm_base.specs.PlaceWords.{names_directly, moving_frame, is_empty_place, writable, narrowed, place_in}
pub use Rattle.hm_base.specs.PlaceWords.{same_place, snap_code}

-- f, but x at k
abbrev pub with_at : {X : Type 0} → (ℕ → X) → ℕ → X → ℕ → X
with_at f k x q = if q == k then x else f q

-- n numbers from `from` on
abbrev pub numbers : ℕ → ℕ → List ℕ
numbers from zero = []
numbers from (suc n) = from ∷ numbers (from + 1) n

-- the least of n numbers from `from` on that passes the test
abbrev pub least : (ℕ → Bool) → ℕ → ℕ → Option ℕ
least test from zero = None
least test from (suc n) = elim (test from) [ true ↦ Some from | false ↦ least test (from + 1) n ]

-- the two lists have the same bytes
abbrev pub same_bytes : List ℕ → List ℕ → Bool
same_bytes [] [] = true
same_bytes (x ∷ xs) (y ∷ ys) = (x == y) && same_bytes xs ys
same_bytes _ _ = false

-- n bytes from an address on
abbrev pub bytes_from : (ℕ → ℕ) → ℕ → ℕ → List ℕ
bytes_from f at zero = []
bytes_from f at (suc n) = f at ∷ bytes_from f (at + 1) n

-- the page of an address
abbrev pub page_of : ℕ → ℕ
page_of at = at / 4096

-- how many of the bytes lie on the first page
abbrev pub first_len : ℕ → ℕ → ℕ
first_len at n = if nat_le (at % 4096 + n) 4096 then n else 4096 - at % 4096

-- an access has at most 4,096 bytes, so at most two pieces
abbrev pub pieces : ℕ → ℕ → List (ℕ × ℕ)
pieces at n = let k = first_len at n in
    if k == n then (at, n) ∷ [] else ((at, k) ∷ (at + k, n - k) ∷ [])
