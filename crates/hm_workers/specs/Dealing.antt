-- Passes that are taken into one.
use Rattle.std.specs.Prelude.{◌≡◌, ◌⊎◌, ℕ, ◌-◌, ◌<◌, Bool, true, List, [], ◌∷◌, length, slice_get, Some, sum_by}
use mathlib.Core.List.{IsPrefix}
use Rattle.hm_base.specs.Program.{Program}
use Rattle.hm_history.specs.declared.Entry.{Entry}
use Rattle.hm_history.specs.declared.Progress.{Progress}
use Rattle.hm_history.specs.declared.Progress.TheVariants.{Idle}
use Rattle.hm_turns.specs.Stepping.{is_halted}
use Rattle.hm_turns.specs.Sights.{Sight, joined}

-- the shares of all passes of a list
abbrev pub shares_of : List Sight → ℕ
shares_of ps = sum_by (λ (p : Sight). p.shares) ps

-- the pass that this many shares were taken from
abbrev pub less_shares : Sight → ℕ → Sight
less_shares v n = record v { shares = v.shares - n }

-- the pass that has taken in these passes, the last one first
abbrev pub gathered : Sight → List Sight → Sight
gathered v [] = v
gathered v (p ∷ ps) = joined (gathered v ps) p

-- the pass has taken in these passes: it has seen what they have, and was told what they were
pub record IsGathered (old : Sight) (passes : List Sight) (new : Sight) : Type 0 where
  pub first : IsPrefix old.list new.list
  pub told : is_halted old.told ≡ true → is_halted new.told ≡ true
  pub each : (i : ℕ) (p : Sight) → slice_get passes i ≡ Some p
      → IsPrefix p.list new.list × (is_halted p.told ≡ true → is_halted new.told ≡ true)

-- after some beginning of the history the actor's operations have ended, or a halt was told
abbrev pub HasEnded : (Program → List Entry → ℕ → Progress) → Program → List Entry → Bool → ℕ → Type 0
HasEnded due s history halted a = ((h : List Entry) × IsPrefix h history × (due s h a ≡ Idle)) ⊎ (halted ≡ true)

-- so for all actors
abbrev pub HaveEnded : (Program → List Entry → ℕ → Progress) → Program → List Entry → Bool → Type 0
HaveEnded due s history halted = (a : ℕ) → a < length s.actors → HasEnded due s history halted a
