-- Whether a mirror is or was one of a process, by what is read of it.
use Rattle.std.proofs.Common.{◌≡◌, ℕ, ◌&&◌, ◌==◌, Option, Some, None, refl}
use Rattle.std.specs.Prelude.{is_some}
use Rattle.hm_history.specs.Memory.Plain.{Plain, MirrorState, mirror_passes, mirror_proc}

pub was_of_read : (s : Plain) (p m : ℕ) → mirror_passes (λ x. x.proc == p) (s.mirrors m) ≡ (is_some (s.mirrors m) && (mirror_proc s m == p))
was_of_read s p m = by (s.mirrors m)
  where
    by : (x : Option MirrorState) → mirror_passes (λ z. z.proc == p) x ≡ (is_some x && (◌==◌ (elim x as (λ z. ℕ) [ None ↦ 0 | Some z ↦ z.proc ]) p))
    by None = refl
    by (Some z) = refl
