-- The bits of words of 64, numbered through the words, and the list of truths that they stand for.
use Rattle.std.specs.Prelude.{◌≡◌, ℕ, ◌+◌, ◌*◌, ◌/◌, ◌%◌, ◌^◌, ◌<◌, ◌≤◌, Bool, true, false, not, ◌==◌, List, length}
use Rattle.std.specs.Prelude.{map, drop, slice_index, Option, option_map}
use Rattle.std.specs.List.{range_with_len, position}
use Rattle.std.specs.Option.{MatchOption}
use Rattle.std.specs.Int.{bit_at}

-- whether the bit is set; none is past the last word
abbrev pub bit : List ℕ → ℕ → Bool
bit words k = bit_at (slice_index words (k / 64)) (k % 64) == 1

-- the first n bits
abbrev pub members : List ℕ → ℕ → List Bool
members words n = map (bit words) (range_with_len 0 n)

-- the lowest number from there on that is true in the list
abbrev pub next_true : List Bool → ℕ → Option ℕ
next_true xs from = option_map (λ k. from + k) (position (λ x. x) (drop from xs))

-- the answer is the lowest number from there on that passes the test
abbrev pub IsNext : (ℕ → Bool) → ℕ → Option ℕ → Type 0
IsNext test from r = MatchOption r ((k : ℕ) → from ≤ k → test k ≡ false)
    (λ q. (from ≤ q) × (test q ≡ true) × ((k : ℕ) → from ≤ k → k < q → test k ≡ false))

-- words with a bit for each number below the size, and words above them with a bit for each word that has one set
pub record IsSummed (size : ℕ) (words summary : List ℕ) : Type 0 where
  pub fits : size < 2 ^ 32
  pub covers : size ≤ 64 * length words
  pub tail : (k : ℕ) → size ≤ k → bit words k ≡ false
  pub above : (w : ℕ) → bit summary w ≡ not (slice_index words w == 0)
  pub summed : length words ≤ 64 * length summary
  pub few : length words ≤ 2 ^ 32
  pub few_above : length summary ≤ 2 ^ 32
