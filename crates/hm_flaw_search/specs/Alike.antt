-- What a driver with a flaw does as the right one does.
use Rattle.std.specs.Prelude.{◌≡◌, ℕ, Option, Some, None, List}
use Rattle.hm_base.specs.Program.{Program}
use Rattle.hm_history.specs.declared.Entry.{Entry}
use Rattle.hm_history.specs.declared.Progress.{Progress}
use Rattle.hm_flaws.specs.declared.flaws.Flaw.{Flaw}
use Rattle.hm_flaws.specs.declared.parts.Part.{Part}
use Rattle.hm_flaws.specs.Flawed.{due_by}
use Rattle.hm_flaws.specs.Judged.{judged}
use Rattle.hm_flaws.specs.Parts.{answers_alone}
use Rattle.hm_flaw_parts.specs.Races.Races.{FlawPoint, point_turn}

-- whatever turns the actors take, the driver comes to what the right one comes to: the same entries, and the same state
abbrev pub NeverDiffers : List Part → Flaw → Program → List Entry → Type 0
NeverDiffers parts l c h = (turns : List ℕ) → judged parts l c h turns ≡ judged parts Flaw.NoFlaw c h turns

-- ---- at a point

-- the entry that a turn adds; a wait adds none, and an idle actor
abbrev pub entry_of : Progress → Option Entry
entry_of (Progress.Did e) = Some e
entry_of p = None

-- a turn of the actor leads where it leads with the right driver
abbrev pub LeadsAlike : Flaw → Program → FlawPoint → ℕ → Type 0
LeadsAlike l c x a = point_turn answers_alone l c x a ≡ point_turn answers_alone Flaw.NoFlaw c x a

-- a turn of the actor adds the entry that it adds with the right driver, or none, and leads to the same
pub record TurnsAlike (l : Flaw) (c : Program) (x : FlawPoint) (a : ℕ) : Type 0 where
  pub entry : entry_of (due_by l c x.flawed a) ≡ entry_of (due_by Flaw.NoFlaw c x.flawed a)
  pub leads : LeadsAlike l c x a

-- so does a turn of each actor
abbrev pub AllTurnAlike : Flaw → Program → FlawPoint → Type 0
AllTurnAlike l c x = (a : ℕ) → TurnsAlike l c x a
