-- What judging reads of a state is what the definitions ask.
use Rattle.std.proofs.Common.{◌≡◌, ℕ, Bool, true, false, ◌&&◌, Option, Some, None, refl, sym, ap, ◌∙◌}
use Rattle.std.specs.Prelude.{if◌then◌else◌, is_some}
use Rattle.hm_base.specs.PlaceWords.{same_frame, with_frame}
use Rattle.hm_base.specs.declared.Frame.{Frame}
use Rattle.hm_history.specs.Memory.Plain.{MirrorState, owned}
use Rattle.hm_history.proofs.Frames.{frame_itself, frame_same}
use Rattle.hm_flaw_states.specs.States.{device_of}

-- the device of a mirror, if it was attached
pub device_passes : (o : Option MirrorState) (test : ℕ → Bool) → (is_some o && test (elim o as (λ y. ℕ) [ None ↦ 0 | Some y ↦ y.dev ])) ≡ owned (device_of o) test
device_passes None test = refl
device_passes (Some x) test = refl

-- a frame is held if taking it changes nothing
pub held_if : (held : Frame → Bool) (f : Frame) (b : Bool) → (b ≡ true → with_frame held f true ≡ held) → (((g : Frame) → with_frame held f true g ≡ held g) → b ≡ true) → b ≡ held f
held_if held f true kept keeps = sym (ap (λ (h : Frame → Bool). h f) (sym (kept refl)) ∙ ap (λ b. if b then true else held f) (frame_itself f))
held_if held f false kept keeps = by (held f) refl
  where
    same : held f ≡ true → (g : Frame) (b : Bool) → same_frame g f ≡ b → (if b then true else held g) ≡ held g
    same h g true e = sym (ap held (frame_same g f e) ∙ h)
    same h g false e = refl

    by : (b : Bool) → held f ≡ b → false ≡ b
    by true e = keeps (λ g. same e g (same_frame g f) refl)
    by false e = refl
