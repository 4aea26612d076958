-- What the kept rules answer.
use Rattle.std.specs.Prelude.{◌≡◌, ℕ, ◌-◌, ◌<◌, ◌^◌, Bool, not, ◌&&◌, ◌==◌, ◌%◌, nat_le}

-- the first number is not 0 and divides the second
abbrev pub divides : ℕ → ℕ → Bool
divides every page = not (every == 0) && (page % every == 0)

-- the first number is at least 4, and less 4 at least the second
abbrev pub outweighs : ℕ → ℕ → Bool
outweighs x y = nat_le 4 x && nat_le y (x - 4)

-- the rule may be asked about every pair of numbers of 64 bits
abbrev pub MayBeAsked : (ℕ → ℕ → Type 0) → Type 0
MayBeAsked pre = (x y : ℕ) → x < 2 ^ 64 → y < 2 ^ 64 → pre x y

-- and each answer about them is that of the definition
abbrev pub AnswersBy : (ℕ → ℕ → Bool) → (ℕ → ℕ → Bool → Type 0) → Type 0
AnswersBy by post = (x y : ℕ) (b : Bool) → x < 2 ^ 64 → y < 2 ^ 64 → post x y b → b ≡ by x y
