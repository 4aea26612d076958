-- Tests of pools and frames: each is itself, and what passes as the same is the same.
use Rattle.std.proofs.Common.{◌≡◌, ◌≢◌, ◌⊎◌, inl, inr, true, false, Option, Some, None, refl, arith}
use Rattle.std.proofs.lemmas.Bool.Decides.{nat_tests}
use Rattle.hm_base.specs.declared.PoolId.{PoolId}
use Rattle.hm_base.specs.declared.Frame.{Frame}
use Rattle.hm_history.specs.Memory.Words.{same_pool, same_frame, is_frame}

pub pool_tells : (x y : PoolId) → ((same_pool x y ≡ true) × (x ≡ y)) ⊎ ((same_pool x y ≡ false) × (x ≢ y))
pool_tells PoolId.System PoolId.System = inl (refl, refl)
pool_tells PoolId.System (PoolId.Device e) = inr (refl, λ h. cc)
pool_tells (PoolId.Device d) PoolId.System = inr (refl, λ h. cc)
pool_tells (PoolId.Device d) (PoolId.Device e) = grind (arith, nat_tests)

pub pool_itself : (x : PoolId) → same_pool x x ≡ true
pool_itself PoolId.System = refl
pool_itself (PoolId.Device d) = grind (arith, nat_tests)

pub pool_same : (x y : PoolId) → same_pool x y ≡ true → x ≡ y
pool_same x y h = grind (arith, pool_tells x y)

pub frame_tells : (f g : Frame) → ((same_frame f g ≡ true) × (f ≡ g)) ⊎ ((same_frame f g ≡ false) × (f ≢ g))
frame_tells f g = grind (arith, nat_tests, pool_tells f.pool g.pool)

pub frame_itself : (f : Frame) → same_frame f f ≡ true
frame_itself f = grind (arith, frame_tells f f)

pub frame_same : (f g : Frame) → same_frame f g ≡ true → f ≡ g
frame_same f g h = grind (arith, frame_tells f g)

pub frame_turned : (f g : Frame) → same_frame f g ≡ same_frame g f
frame_turned f g = grind (arith, frame_tells f g, frame_tells g f)

pub is_frame_from : (x : Option Frame) (f : Frame) → is_frame x f ≡ true → x ≡ Some f
is_frame_from None f h = cc
is_frame_from (Some g) f h = grind (arith, frame_tells g f)

pub is_frame_of : (x : Option Frame) (f : Frame) → x ≡ Some f → is_frame x f ≡ true
is_frame_of None f h = cc
is_frame_of (Some g) f h = grind (arith, frame_tells g f)
