-- A mirror with its interval.
use Rattle.std.proofs.Common.{◌≡◌, ℕ, Bool, true, Option, Some, None, refl, sym, ap, ◌∙◌}
use Rattle.hm_base.specs.Program.{Program}
use Rattle.hm_history.specs.Memory.Plain.{MirrorState, mirror_passes, mirror_proc}
use Rattle.hm_history.specs.Memory.Sequences.{Interval, interval_proc}
use Rattle.hm_history.specs.Memory.After.{After}
use Rattle.hm_laws.specs.Past.{Past}
use Rattle.hm_laws.specs.Sound.{Pairing, Sound}
use Rattle.hm_laws.proofs.Kept.Mirrors.{interval_of}

-- a mirror that passes a test of mirrors, with its interval
pub record Mirrored (s : After) (m : ℕ) (test : MirrorState → Bool) : Type 0 where
  pub mirror : MirrorState
  pub is : s.plain.mirrors m ≡ Some mirror
  pub passes : test mirror ≡ true
  pub interval : Interval
  pub is_interval : s.sequences.interval m ≡ Some interval
  pub paired : Pairing mirror interval (s.places.device m)

pub mirrored : (c : Program) (s : After) (t : Past) (m : ℕ) (test : MirrorState → Bool) → Sound c s t → mirror_passes test (s.plain.mirrors m) ≡ true → Mirrored s m test
mirrored c s t m test so h = by (s.plain.mirrors m) refl h
  where
    by : (x : Option MirrorState) → s.plain.mirrors m ≡ x → mirror_passes test x ≡ true → Mirrored s m test
    by None e k = cc
    by (Some x) e k = let y : (y : Interval) × (s.sequences.interval m ≡ Some y) × Pairing x y (s.places.device m) = interval_of s.plain.mirrors s.sequences.interval s.places.device so.mirrors m x e in
        record { mirror = x; is = e; passes = k; interval = y.0; is_interval = y.1; paired = y.2 }

pub same_proc : (s : After) (m : ℕ) (test : MirrorState → Bool) → Mirrored s m test → interval_proc s.sequences m ≡ mirror_proc s.plain m
same_proc s m test h = ap (λ (x : Option Interval). elim x [ None ↦ 0 | Some y ↦ y.proc ]) h.is_interval ∙ h.paired.proc ∙ sym (ap (λ (x : Option MirrorState). elim x [ None ↦ 0 | Some y ↦ y.proc ]) h.is)
