-- What is asked of a key whose part is not broken.
use Rattle.std.proofs.Common.{◌≡◌, ◌&&◌, Bool, false, Option, Some, None, ap, ◌∙◌}
use Rattle.std.specs.Prelude.{IfOk, Result, Ok, Err, is_none, is_some}
use Rattle.hm_base.specs.Program.{Program}
use Rattle.hm_flaws.specs.declared.flaws.Flaw.{Flaw}
use Rattle.hm_flaws.specs.declared.parts.Part.{Part}
use Rattle.hm_flaws.specs.Races.{is_stuck}
use Rattle.hm_flaw_parts.specs.Races.Judging.{sticks_at}
use Rattle.hm_flaw_states.specs.Keyed.{form_in}
use Rattle.hm_flaw_states.specs.declared.key.FlawKey.{FlawKey}

-- nobody can go on at the key if the driver is stuck there
pub sticks_by : {E : Type 0} (l : Flaw) (c : Program) (k n : FlawKey) (o : Option Part) (r : Result Bool E) → n ≡ k → o ≡ (form_in n).broken → is_some o ≡ false → IfOk r (λ b. b ≡ is_stuck l c (form_in n).flawed)
    → IfOk r (λ b. b ≡ sticks_at l c (form_in k))
sticks_by l c k n None (Ok b) same part none stuck = stuck ∙ (ap (λ (q : Option Part). is_none q && is_stuck l c (form_in n).flawed) part ∙ ap (λ (z : FlawKey). sticks_at l c (form_in z)) same)
sticks_by l c k n None (Err e) same part none stuck = tt
sticks_by l c k n (Some part) r same is none stuck = absurd cc
