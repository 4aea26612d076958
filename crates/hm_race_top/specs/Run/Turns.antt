-- States that a race has come to, and turns there.
use Rattle.std.specs.Prelude.{◌≡◌, ℕ, ◌≤◌, false, Option, None, Some, List, [], ◌∷◌, ◌++◌, length}
use Rattle.hm_base.specs.Program.{Program}
use Rattle.hm_history.specs.Kernel.Due.{due}
use Rattle.hm_history.specs.Kernel.Going.{state_of}
use Rattle.hm_history.specs.Laws.{DueFrom}
use Rattle.hm_history.specs.Kernel.Run.{is_entry}
use Rattle.hm_history.specs.declared.Entry.{Entry}
use Rattle.hm_history.specs.declared.Progress.{Progress}
use Rattle.hm_race_laws.specs.Blur.{blurred_entry, tidied, unlisted}
use Rattle.hm_race_states.specs.States.{state_in}
use Rattle.hm_race_states.specs.declared.state.RaceState.{RaceState}
use Rattle.hm_race_top.specs.declared.run.turn.Turned.{Turned}

-- the state is that after a history of entries that were due, without positions and absolute sequences
pub record Shows (c : Program) (h : List Entry) (x : RaceState) : Type 0 where
  pub due : DueFrom c [] h
  pub same : unlisted (state_in x) ≡ tidied c (state_of c h)

-- it is that after some such history of at most this many entries
pub record IsShown (c : Program) (x : RaceState) (most : ℕ) : Type 0 where
  pub history : List Entry
  pub shows : Shows c history x
  pub few : length history ≤ most

-- the entry is due after such a history, which has room for it
pub record IsDue (c : Program) (x : RaceState) (e : Entry) : Type 0 where
  pub history : List Entry
  pub shows : Shows c history x
  pub due : due c history e.actor ≡ Progress.Did e
  pub few : length history ≤ 2000000

-- what a turn after a history comes to: nothing, or the entry that is due and the state after it
abbrev pub IsTurned : Program → List Entry → ℕ → Option Turned → Type 0
IsTurned c h a None = is_entry (due c h a) ≡ false
IsTurned c h a (Some t) =
    (e : Entry) × (due c h a ≡ Progress.Did e) × (t.entry ≡ blurred_entry e) × Shows c (h ++ e ∷ []) t.state
