-- Nothing is due to an actor: a part was broken, or it waits, or is idle.
use Rattle.std.proofs.Common.{◌≡◌, ℕ, Bool, true, false, ◌&&◌, Option, Some, None, refl, sym, ap, ◌∙◌}
use Rattle.std.specs.Prelude.{is_none, is_some}
use Rattle.std.proofs.lemmas.Bool.{false≢true}
use Rattle.hm_base.specs.Program.{Program}
use Rattle.hm_history.specs.Kernel.Run.{is_entry}
use Rattle.hm_history.specs.declared.Progress.{Progress}
use Rattle.hm_flaw_states.specs.Owns.{driver_in}
use Rattle.hm_flaw_states.specs.declared.owns.Own.{Own}
use Rattle.hm_flaws.specs.Flawed.{due_by}
use Rattle.hm_flaws.specs.declared.flaws.Flaw.{Flaw}
use Rattle.hm_flaws.specs.declared.parts.Part.{Part}
use Rattle.hm_flaw_parts.specs.Races.Races.{is_due_at}
use Rattle.hm_flaw_states.specs.States.{state_in}
use Rattle.hm_flaw_states.specs.declared.state.FlawState.{FlawState}
use Rattle.hm_flaw_states.specs.Keyed.{form_in}
use Rattle.hm_flaw_states.specs.declared.key.FlawKey.{FlawKey}

after_break : (o : Option Part) (b : Bool) → is_some o ≡ true → (is_none o && b) ≡ false
after_break None b k = absurd (false≢true k)
after_break (Some part) b k = refl

-- a part was broken
pub due_after : (l : Flaw) (c : Program) (k : FlawKey) (a : ℕ) (p : Option Part) → p ≡ (form_in k).broken → is_some p ≡ true → is_due_at l c (form_in k) a ≡ false
due_after l c k a p same b = after_break (form_in k).broken (is_entry (due_by l c (form_in k).flawed a)) (ap is_some (sym same) ∙ b)

no_entry : (o : Option Part) (b : Bool) → b ≡ false → (is_none o && b) ≡ false
no_entry None b k = k
no_entry (Some part) b k = refl

-- the actor waits, or is idle
pub due_none : (l : Flaw) (c : Program) (k : FlawKey) (a : ℕ) (p : Progress) → due_by l c (form_in k).flawed a ≡ p → is_entry p ≡ false → is_due_at l c (form_in k) a ≡ false
due_none l c k a p d is = no_entry (form_in k).broken (is_entry (due_by l c (form_in k).flawed a)) (ap is_entry d ∙ is)

-- what is due to an actor is due in the state that is kept
pub due_kept : (l : Flaw) (c : Program) (x y : FlawState) (d o : Own) (a : ℕ) (p : Progress) → x ≡ y → d ≡ o → p ≡ due_by l c (record { state = state_in x; driver = driver_in d }) a
    → due_by l c (record { state = state_in y; driver = driver_in o }) a ≡ p
due_kept l c x y d o a p s t is =
    sym (ap (λ (z : FlawState). due_by l c (record { state = state_in z; driver = driver_in d }) a) s
    ∙ ap (λ (z : Own). due_by l c (record { state = state_in y; driver = driver_in z }) a) t) ∙ sym is
