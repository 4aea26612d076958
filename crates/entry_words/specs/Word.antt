-- The word of a place, by its fields: the kind in bits 0 to 2, the write right in bit 3, the pool in bits 4 to 6, the
-- frame's number in bits 8 to 39, and in bits 40 to 43 the actor that has the page alone. All other bits are 0.
use Rattle.std.specs.Prelude.{ℕ, ◌+◌, ◌*◌, ◌^◌, Bool, true, false, ◌&&◌, nat_lt, if◌then◌else◌}
use Rattle.hm_base.specs.declared.PoolId.{PoolId}
use Rattle.hm_base.specs.declared.PoolId.TheVariants.{System, Device}
use Rattle.hm_base.specs.declared.Place.{Place}
use Rattle.hm_base.specs.declared.Place.TheVariants.{Empty, Zero, Sys, Own, Moving, Exclusive}

-- a word of these fields
abbrev pub word : ℕ → Bool → ℕ → ℕ → ℕ → ℕ
word kind writable pool number actor =
    kind + (if writable then 8 else 0) + 16 * pool + 2 ^ 8 * number + 2 ^ 40 * actor

-- pool 0 is the system's, pool 1 + d is that of device d
abbrev pub pool_field : PoolId → ℕ
pool_field System = 0
pool_field (Device d) = 1 + d

-- the word of each place; 0 is an empty one, so that a new table needs no writing
abbrev pub word_of : Place → ℕ
word_of Empty = 0
word_of Zero = 1
word_of (Sys n w) = word 2 w 0 n 0
word_of (Own d n w) = word 3 w (1 + d) n 0
word_of (Moving f w) = word 4 w (pool_field f.pool) f.number 0
word_of (Exclusive n a) = word 5 false 0 n a

-- the numbers of the place fit their fields: a frame's number is below 2^32, a device's below 4, an actor's below 16
abbrev pub pool_fits : PoolId → Bool
pool_fits System = true
pool_fits (Device d) = nat_lt d 4

-- the place has a word
abbrev pub has_word : Place → Bool
has_word Empty = true
has_word Zero = true
has_word (Sys n w) = nat_lt n (2 ^ 32)
has_word (Own d n w) = nat_lt d 4 && nat_lt n (2 ^ 32)
has_word (Moving f w) = pool_fits f.pool && nat_lt f.number (2 ^ 32)
has_word (Exclusive n a) = nat_lt n (2 ^ 32) && nat_lt a 16
