-- Where a variant leads an actor.
use Rattle.std.specs.Prelude.{◌≡◌, ℕ, ◌+◌, [], ◌∷◌}
use Rattle.hm_base.specs.Program.{Program}
use Rattle.hm_base.specs.declared.cause.Cause.{Cause}
use Rattle.hm_history.specs.Kernel.Going.{Going, going_from}
use Rattle.hm_history.specs.declared.Kind.{Kind}
use Rattle.hm_history.specs.declared.Who.{Who}
use Rattle.hm_history.specs.declared.phases.Phase.{Phase}
use Rattle.hm_linux_steps.specs.declared.led.Led.{Led}

-- the actor where it is led from its operation of number i; g is where the definitions lead
abbrev pub led_to : Program → ℕ → ℕ → Led → Going → Going
led_to c a i Led.Plainly g = g
led_to c a i (Led.Piece k) g = record { index = i; stack = Phase.Piece k ∷ []; pages = [] }
led_to c a i Led.Over g = going_from c a (i + 1)
led_to c a i Led.Anew g = record { index = i; stack = Phase.Begin ∷ []; pages = [] }

-- the entry is the failure of a piece
pub record FailsHere (k : Kind) : Type 0 where
  pub who : Who
  pub addr : ℕ
  pub len : ℕ
  pub cause : Cause
  pub is : k ≡ Kind.Failed who addr len cause
