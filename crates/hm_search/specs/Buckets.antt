-- A table of chains, as contracts see it.
use Rattle.std.specs.Prelude.{◌≡◌, ℕ, ◌<◌, ◌%◌, Option, Some, None, List, length, map, get_or}
use Rattle.hm_search.specs.declared.buckets.Link.{Link}

-- numbers in a row, and how many slots they fall into
pub record BucketsValue : Type 0 where
  pub numbers : List ℕ
  pub slots : ℕ

-- the slot into which a number falls
abbrev pub slot_in : ℕ → ℕ → ℕ
slot_in slots number = number % slots

-- the slot of the number at a place
abbrev pub slot_at : BucketsValue → ℕ → ℕ
slot_at b at = slot_in b.slots (get_or b.numbers at 0)

-- the last place before another one whose number falls into a slot
abbrev pub IsLast : BucketsValue → ℕ → ℕ → Option ℕ → Type 0
IsLast b end slot None = (i : ℕ) → i < end → slot_at b i ≡ slot → ⊥
IsLast b end slot (Some at) =
    (at < end) × (slot_at b at ≡ slot) × ((i : ℕ) → at < i → i < end → slot_at b i ≡ slot → ⊥)

-- what the links and the last places of slots say
abbrev pub buckets_of : List Link → List (Option ℕ) → BucketsValue
buckets_of links lasts = record { numbers = map (λ l. l.number) links; slots = length lasts }

-- each slot has its last place, and each place the one before it in its slot
pub record AreChained (links : List Link) (lasts : List (Option ℕ)) : Type 0 where
  pub some : 0 < length lasts
  pub last : (slot : ℕ) → slot < length lasts
      → IsLast (buckets_of links lasts) (length links) slot (get_or lasts slot None)
  pub before : (at : ℕ) → at < length links
      → IsLast (buckets_of links lasts) at (slot_at (buckets_of links lasts) at)
      (get_or (map (λ l. l.before) links) at None)
