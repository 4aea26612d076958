-- What a migration takes if no device counts as withdrawn, and what a removal does if each does.
use Rattle.std.proofs.Common.{◌≡◌, ℕ, suc, ◌+◌, ◌-◌, ◌<◌, Bool, true, false, not, Option, Some, None, refl, sym, ap, ◌∙◌, arith}
use Rattle.std.proofs.lemmas.Bool.Decides.{nat_tests}
use Rattle.hm_base.specs.Program.{Program}
use Rattle.hm_base.specs.declared.Frame.{Frame}
use Rattle.hm_base.specs.declared.PoolId.{PoolId}
use Rattle.hm_base.specs.declared.ops.Op.{Op}
use Rattle.hm_history.specs.Memory.Words.{least, dev_frame}
use Rattle.hm_history.specs.Memory.Plain.{mirror_dev}
use Rattle.hm_history.specs.Memory.Places.{frame_of, pool_size, lowest_free, held_from}
use Rattle.hm_history.specs.Memory.After.{After}
use Rattle.hm_history.specs.Kernel.Operation.{op_mirror, is_to_device}
use Rattle.hm_history.specs.Kernel.Due.{pool_of, frames_end, frame_at, due_frames_of}
use Rattle.hm_history.specs.declared.phases.Next.{Next}
use Rattle.hm_history.specs.declared.phases.Next.TheVariants.{Do}
use Rattle.hm_history.proofs.Least.{at_least}
use Rattle.hm_flaws.specs.Overrides.{all_withdrawn}
use Rattle.hm_flaw_states.specs.Steps.Found.{is_first}

-- ---- the least number

first_passes : (t : ℕ → Bool) (from n : ℕ) (o : Option ℕ) → least t from (suc n) ≡ o → is_first from o ≡ t from
first_passes t from n o e = by (t from) refl o e
  where
    by : (b : Bool) → t from ≡ b → (o : Option ℕ) → least t from (suc n) ≡ o → is_first from o ≡ b
    by true q o h = let f : least t from (suc n) ≡ Some from = rw (q, least) refl in let g : o ≡ Some from = sym h ∙ f in rw g (grind (arith, nat_tests))
    by false q None h = refl
    by false q (Some k) h =
        let f : least t from (suc n) ≡ least t (from + 1) n = rw (q, least) refl in
        let m = at_least t (from + 1) n k (sym f ∙ h) in grind (arith, nat_tests, m)

pub held_here : (c : Program) (s : After) (d n : ℕ) (o : Option ℕ) → n < pool_size c (PoolId.Device d) → o ≡ held_from c s.places d n → is_first n o ≡ s.places.held (frame_of (PoolId.Device d) n)
held_here c s d n o h e =
    let t : ℕ → Bool = λ i. s.places.held (frame_of (PoolId.Device d) i) in
    let m : pool_size c (PoolId.Device d) - n ≡ suc (pool_size c (PoolId.Device d) - (n + 1)) = omega (arith, h) in
    first_passes t n (pool_size c (PoolId.Device d) - (n + 1)) o (sym (ap (least t n) m) ∙ sym e)

-- ---- where frames are taken

pub system_free : (c : Program) (s : After) (o : Op) → is_to_device o ≡ false → lowest_free c s.places PoolId.System ≡ lowest_free c (all_withdrawn false s).places (pool_of s o)
system_free c s o e = ap (λ (b : Bool). lowest_free c (all_withdrawn false s).places (elim b [ true ↦ PoolId.Device (mirror_dev s.plain (op_mirror o)) | false ↦ PoolId.System ])) (sym e)

pub device_free : (c : Program) (s : After) (o : Op) (d n : ℕ) → is_to_device o ≡ true → d ≡ mirror_dev s.plain (op_mirror o)
    → Some n ≡ least (λ i. not (s.places.held (frame_of (PoolId.Device d) i))) 0 (pool_size c (PoolId.Device d))
    → Some (frame_of (PoolId.Device d) n) ≡ lowest_free c (all_withdrawn false s).places (pool_of s o)
device_free c s o d n e p h =
    ap (λ (x : Option ℕ). elim x as (λ y. Option Frame) [ None ↦ None | Some i ↦ Some (frame_of (PoolId.Device d) i) ]) h
    ∙ (ap (λ (i : ℕ). lowest_free c (all_withdrawn false s).places (PoolId.Device i)) p
    ∙ ap (λ (b : Bool). lowest_free c (all_withdrawn false s).places (elim b [ true ↦ PoolId.Device (mirror_dev s.plain (op_mirror o)) | false ↦ PoolId.System ])) (sym e))

-- ---- a removal with no frame left

pub none_held : (c : Program) (s : After) (a d v n : ℕ) → None ≡ held_from c s.places d v → Do (frames_end s d true n) ≡ due_frames_of c (all_withdrawn true s) a d true v n
none_held c s a d v n e = ap (λ (o : Option ℕ). elim o as (λ x. Next) [ None ↦ Do (frames_end s d true n) | Some k ↦ frame_at s a true (dev_frame d k) ]) e
