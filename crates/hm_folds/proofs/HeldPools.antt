-- The pools of frames that are held.
use Rattle.std.proofs.Common.{◌≡◌, ℕ, zero, suc, ◌+◌, ◌-◌, ◌<◌, ◌≤◌, ◌^◌, true, false, not, Option, Some, None, List, [], ◌∷◌, length, slice_index_or, refl, sym, ap, ◌∙◌, arith}
use Rattle.std.specs.Prelude.{slice_get, slice_index}
use Rattle.std.proofs.lemmas.Bool.Decides.{nat_tests}
use Rattle.std.proofs.lemmas.List.{get_or_past}
use Rattle.hm_base.specs.Program.{Program}
use Rattle.hm_base.specs.declared.Frame.{Frame}
use Rattle.hm_base.specs.declared.PoolId.{PoolId}
use Rattle.hm_base.specs.PlaceWords.{pool_index}
use Rattle.hm_history.specs.Memory.Words.{least}
use Rattle.hm_history.specs.Memory.Places.{pool_size}
use Rattle.hm_folds.specs.Numbers.{has_number}
use Rattle.hm_folds.specs.HeldFrames.{held_of, held_at, frames_of, frames_in}
use Rattle.hm_folds.specs.declared.held.HeldNumbers.{HeldNumbers}
use Rattle.hm_folds.proofs.LeastHeld.{least_is}

-- numbers of frames are small
pub free_below : (x : HeldNumbers) (i : ℕ) → Some i ≡ least (λ n. not (has_number x.held n)) 0 x.frames → i < 2 ^ 32
free_below x i e = let f = least_is (λ n. not (has_number x.held n)) 0 x.frames i (sym e) in omega (arith, f.within, x.sound.few)

pub held_below : (x : HeldNumbers) (from i : ℕ) → Some i ≡ least (has_number x.held) from (x.frames - from) → i < 2 ^ 32
held_below x from i e = let f = least_is (has_number x.held) from (x.frames - from) i (sym e) in omega (arith, f.within, f.above, x.sound.few)

-- a held frame is one of its pool
pub held_within : (xs : List HeldNumbers) (f : Frame) → held_at xs f ≡ true → f.number < frames_in xs f.pool
held_within xs f h = by (slice_get xs (pool_index f.pool)) refl h
  where
    by : (o : Option HeldNumbers) → slice_get xs (pool_index f.pool) ≡ o → held_of f.number o ≡ true → f.number < frames_of o
    by None e k = cc
    by (Some x) e k = below (x.sound.no_held f.number)
      where
        below : (x.next ≤ f.number → has_number x.held f.number ≡ false) → f.number < x.frames
        below g = grind (arith, nat_tests, x.sound.within, g, k)

-- the frames of a device, by number
device_frames : (c : Program) (a b d e f : HeldNumbers) → length c.devices ≤ 4 → b.frames ≡ slice_index_or c.devices 0 0 → d.frames ≡ slice_index_or c.devices 1 0 → e.frames ≡ slice_index_or c.devices 2 0 → f.frames ≡ slice_index_or c.devices 3 0 →
    (k : ℕ) → frames_of (slice_get (a ∷ b ∷ d ∷ e ∷ f ∷ []) (suc k)) ≡ slice_index c.devices k
device_frames c a b d e f few p q r t zero = p
device_frames c a b d e f few p q r t (suc zero) = q
device_frames c a b d e f few p q r t (suc (suc zero)) = r
device_frames c a b d e f few p q r t (suc (suc (suc zero))) = t
device_frames c a b d e f few p q r t (suc (suc (suc (suc k)))) = sym (get_or_past c.devices (suc (suc (suc (suc k)))) 0 (omega (arith, few)))

pub five_pools : (c : Program) (a b d e f : HeldNumbers) → length c.devices ≤ 4 → a.frames ≡ c.frames → b.frames ≡ slice_index_or c.devices 0 0 → d.frames ≡ slice_index_or c.devices 1 0 → e.frames ≡ slice_index_or c.devices 2 0 → f.frames ≡ slice_index_or c.devices 3 0 →
    (pool : PoolId) → frames_in (a ∷ b ∷ d ∷ e ∷ f ∷ []) pool ≡ pool_size c pool
five_pools c a b d e f few o p q r t PoolId.System = o
five_pools c a b d e f few o p q r t (PoolId.Device k) = ap (λ n. frames_of (slice_get (a ∷ b ∷ d ∷ e ∷ f ∷ []) n)) (one k) ∙ device_frames c a b d e f few p q r t k
  where
    one : (k : ℕ) → k + 1 ≡ suc k
    one k = omega arith
