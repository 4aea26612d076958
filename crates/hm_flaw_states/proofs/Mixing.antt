-- Numbers made of states, one part more.
use Rattle.std.proofs.Common.{◌≡◌, ℕ, ◌+◌, refl, add-one}
use Rattle.hm_history.specs.Kernel.Going.{Going}
use Rattle.hm_race_keys.specs.Sparse.{mixed}
use Rattle.hm_flaw_states.specs.Buckets.{mixed_top, mixed_tops, mixed_numbers}

pub tops_more : (sum n : ℕ) (f : ℕ → Going) → mixed_tops sum (n + 1) f ≡ mixed_top (mixed_tops sum n f) (f n)
unfolding mixed_tops
tops_more sum n f = rw add-one refl

pub no_tops : (sum : ℕ) (f : ℕ → Going) → sum ≡ mixed_tops sum 0 f
unfolding mixed_tops
no_tops sum f = refl

pub numbers_more : (sum n : ℕ) (f : ℕ → ℕ) → mixed_numbers sum (n + 1) f ≡ mixed (mixed_numbers sum n f) (f n)
unfolding mixed_numbers
numbers_more sum n f = rw add-one refl

pub no_numbers : (sum : ℕ) (f : ℕ → ℕ) → sum ≡ mixed_numbers sum 0 f
unfolding mixed_numbers
no_numbers sum f = refl
