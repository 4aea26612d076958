-- The changes tell all that is shown.
use Rattle.std.specs.Prelude.{◌≡◌, ℕ, ◌≤◌, List, [], length, take}
use Rattle.hm_base.specs.Program.{Program}
use Rattle.hm_history.specs.Laws.{DueFrom}
use Rattle.hm_history.specs.Kernel.Going.{state_of}
use Rattle.hm_history.specs.Kernel.Legal.{Legal}
use Rattle.hm_history.specs.Memory.After.{After, after_entry}
use Rattle.hm_history.specs.declared.Entry.{Entry}
use Rattle.hm_view.specs.Shown.{shown, changes, applied_all, put_together}

-- an entry's changes lead from what is shown before it to what is shown after it
abbrev pub EachChangeIsTold : Type 0
EachChangeIsTold = (s : After) (e : Entry)
    → applied_all (changes s (after_entry s e) e) (shown s) ≡ shown (after_entry s e)

-- so what is put together of the changes before each position is what is shown there
abbrev pub TellsStates : Program → List Entry → Type 0
TellsStates c h = (n : ℕ) → n ≤ length h → put_together c h n ≡ shown (state_of c (take n h)).after

-- so it is of each history
abbrev pub ChangesAreTold : Type 0
ChangesAreTold = (c : Program) (h : List Entry) → TellsStates c h

-- each entry of a legal history was due after those before it
abbrev pub LegalIsDue : Type 0
LegalIsDue = (c : Program) (h : List Entry) → Legal c h → DueFrom c [] h
