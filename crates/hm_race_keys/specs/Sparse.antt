-- Lists of items by row and number, and the numbers that are made of them.
use Rattle.std.specs.Prelude.{◌≡◌, ℕ, suc, ◌+◌, ◌*◌, ◌/◌, ◌%◌, ◌^◌, Bool, true, false, ◌==◌, ◌&&◌, ◌||◌, not}
use Rattle.std.specs.Prelude.{if◌then◌else◌, ◌≤◌, ◌<◌, nat_lt, Option, Some, None, List, [], ◌∷◌, length}
use Rattle.hm_race_keys.specs.declared.sparse.Item.{Item}

-- the item stands at a number of a row
abbrev pub stands_at : {V : Type 0} → ℕ → ℕ → Item V → Bool
stands_at r k x = (r == x.row) && (k == x.number)

-- the item stands before a number of a row
abbrev pub stands_before : {V : Type 0} → ℕ → ℕ → Item V → Bool
stands_before r k x = nat_lt x.row r || ((r == x.row) && nat_lt x.number k)

-- whether each stands before the next, and none before a number of a row
abbrev pub rising_from : {V : Type 0} → ℕ → ℕ → List (Item V) → Bool
rising_from r k [] = true
rising_from r k (x ∷ xs) = not (stands_before r k x) && rising_from x.row (suc x.number) xs

-- how many stand before a number of a row
abbrev pub place_of : {V : Type 0} → ℕ → ℕ → List (Item V) → ℕ
place_of r k [] = 0
place_of r k (x ∷ xs) = if stands_before r k x then suc (place_of r k xs) else 0

-- whether what a search came to is the item of a number of a row
abbrev pub is_found : {V : Type 0} → ℕ → ℕ → Option (Item V) → Bool
is_found r k None = false
is_found r k (Some x) = stands_at r k x

-- with an item at its place, over the one that stands there
abbrev pub put : {V : Type 0} → Item V → List (Item V) → List (Item V)
put x [] = x ∷ []
put x (y ∷ ys) =
    if stands_before x.row x.number y then y ∷ put x ys
    else (if stands_at x.row x.number y then x ∷ ys else x ∷ y ∷ ys)

-- the value at a number of a row, if there is one
abbrev pub found : {V : Type 0} → List (Item V) → ℕ → ℕ → Option V
found [] r k = None
found (x ∷ xs) r k = if stands_at r k x then Some x.value else found xs r k

-- a number from there on with its value, and no number before it has one; without one, none has
abbrev pub IsNextIn : {V : Type 0} → (ℕ → Option V) → ℕ → Option (ℕ × V) → Type 0
IsNextIn f from None = (k : ℕ) → from ≤ k → f k ≡ None
IsNextIn f from (Some x) = (from ≤ x.0) × (f x.0 ≡ Some x.1) × ((k : ℕ) → from ≤ k → k < x.0 → f k ≡ None)

-- a number of 64 bits with half of its upper bits added to the lower
abbrev pub folded : ℕ → ℕ
folded n = (n + n / 2 ^ 32) % 2 ^ 64

-- a number made of a sum and a word
abbrev pub mixed : ℕ → ℕ → ℕ
mixed sum word = folded (((sum + word + 1) * 11400714819323198485) % 2 ^ 64)

-- a sum with the items mixed in, by what mixes their values in
abbrev pub mixed_each : {V : Type 0} → (V → ℕ → ℕ) → ℕ → List (Item V) → ℕ
mixed_each mix sum [] = sum
mixed_each mix sum (x ∷ xs) = mixed_each mix (mix x.value (mixed (mixed sum x.row) x.number)) xs

-- a sum with the number of the items and the items mixed in
abbrev pub mixed_items : {V : Type 0} → (V → ℕ → ℕ) → ℕ → List (Item V) → ℕ
mixed_items mix sum xs = mixed_each mix (mixed sum (length xs)) xs
