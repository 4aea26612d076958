-- How far actors are, and the number made of it.
use Rattle.std.proofs.Common.{◌≡◌, ℕ, ◌+◌, refl, add-one}
use Rattle.hm_history.specs.Kernel.Going.{Going}
use Rattle.hm_race_states.specs.Buckets.{mixed_going, mixed_goings}

pub one_more : (sum n : ℕ) (f : ℕ → Going) → mixed_goings sum (n + 1) f ≡ mixed_going (mixed_goings sum n f) (f n)
unfolding mixed_goings
one_more sum n f = rw add-one refl

pub none_yet : (sum : ℕ) (f : ℕ → Going) → sum ≡ mixed_goings sum 0 f
unfolding mixed_goings
none_yet sum f = refl
