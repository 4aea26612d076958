-- How a word is read: by its fields. That this gives the place that has the word is proved of `decode`.
use Rattle.std.specs.Prelude.{ℕ, ◌-◌, ◌/◌, ◌%◌, ◌^◌, Bool, not, ◌&&◌, nat_lt, nat_le, ◌==◌, if◌then◌else◌, Option, Some}
use Rattle.std.specs.Prelude.{None}
use Rattle.hm_base.specs.declared.PoolId.{PoolId}
use Rattle.hm_base.specs.declared.PoolId.TheVariants.{System, Device}
use Rattle.hm_base.specs.declared.Place.{Place}
use Rattle.hm_base.specs.declared.Place.TheVariants.{Empty, Zero, Sys, Own, Moving, Exclusive}

-- some bits of a word, from one on, as a number
abbrev pub field : ℕ → ℕ → ℕ → ℕ
field w from bits = w / 2 ^ from % 2 ^ bits

-- the pool of its field
abbrev pub pool_from : ℕ → PoolId
pool_from p = if p == 0 then System else Device (p - 1)

-- the place of these fields: pool is bits 4 to 7 and rest bits 40 to 63
abbrev pub place_from : ℕ → Bool → ℕ → ℕ → ℕ → Option Place
place_from kind w pool n rest =
    if kind == 2 then (if (pool == 0) && (rest == 0) then Some (Sys n w) else None)
    else if kind == 3 then (if nat_le 1 pool && (nat_le pool 4 && (rest == 0)) then Some (Own (pool - 1) n w) else None)
    else if kind == 4 then
    (if nat_le pool 4 && (rest == 0) then Some (Moving (record { pool = pool_from pool; number = n }) w) else None)
    else if kind == 5 then (if not w && ((pool == 0) && nat_lt rest 16) then Some (Exclusive n rest) else None)
    else None

-- the place that a word's fields say, if they say one
abbrev pub place_at : ℕ → Option Place
place_at x =
    if x == 0 then Some Empty
    else if x == 1 then Some Zero
    else place_from (field x 0 3) (field x 3 1 == 1) (field x 4 4) (field x 8 32) (field x 40 24)
