-- The process of a mirror, where it was attached.
use Rattle.std.proofs.Common.{◌≡◌, ℕ, Bool, true, Option, Some, None, is_some, refl, ap, ◌∙◌}
use Rattle.std.specs.Prelude.{option_map}
use Rattle.hm_history.specs.Memory.Plain.{Plain, MirrorState, mirror_proc, mirror_owner, owned}

-- what its owner passes, the mirror's process passes
pub owned_proc : (s : Plain) (m : ℕ) (test : ℕ → Bool) → owned (mirror_owner s m) test ≡ true → test (mirror_proc s m) ≡ true
owned_proc s m test h = by (s.mirrors m) h
  where
    by : (x : Option MirrorState) → owned (option_map (λ y. y.proc) x) test ≡ true → test (elim x as (λ y. ℕ) [ None ↦ 0 | Some y ↦ y.proc ]) ≡ true
    by None k = cc
    by (Some y) k = k

-- a mirror that was attached has its process as owner
pub owner_is : (s : Plain) (m : ℕ) → is_some (s.mirrors m) ≡ true → mirror_owner s m ≡ Some (mirror_proc s m)
owner_is s m h = by (s.mirrors m) h
  where
    by : (x : Option MirrorState) → is_some x ≡ true → option_map (λ y. y.proc) x ≡ Some (elim x as (λ y. ℕ) [ None ↦ 0 | Some y ↦ y.proc ])
    by None k = cc
    by (Some y) k = refl

-- what the process of a mirror that was attached passes, its owner passes
pub owned_from : (s : Plain) (m : ℕ) (test : ℕ → Bool) → is_some (s.mirrors m) ≡ true → test (mirror_proc s m) ≡ true → owned (mirror_owner s m) test ≡ true
owned_from s m test h k = ap (λ x. owned x test) (owner_is s m h) ∙ k

-- a mirror whose owner passes a test was attached
pub owned_there : (s : Plain) (m : ℕ) (test : ℕ → Bool) → owned (mirror_owner s m) test ≡ true → is_some (s.mirrors m) ≡ true
owned_there s m test h = by (s.mirrors m) h
  where
    by : (x : Option MirrorState) → owned (option_map (λ y. y.proc) x) test ≡ true → is_some x ≡ true
    by None k = cc
    by (Some y) k = refl
