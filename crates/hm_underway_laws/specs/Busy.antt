-- Who never waits.
use Rattle.std.specs.Prelude.{◌≡◌, ℕ, Bool, true, false, is_some, Option, Some, None, List, []}
use Rattle.hm_base.specs.Program.{Program, IsScript}
use Rattle.hm_base.specs.declared.Frame.{Frame}
use Rattle.hm_history.specs.Laws.{DueFrom}
use Rattle.hm_history.specs.Memory.After.{After, after}
use Rattle.hm_history.specs.Kernel.Due.{due}
use Rattle.hm_history.specs.declared.Entry.{Entry}
use Rattle.hm_history.specs.declared.Progress.{Progress}
use Rattle.hm_history.specs.declared.locks.MapLock.{MapLock}

-- the actor has an mmap lock for writing
abbrev pub writes_map : Option MapLock → Bool
writes_map None = false
writes_map (Some l) = l.writes

-- the actor is inside a guard, between its start and its end; or has an mmap lock for writing; or a frame locked
pub data IsBusy (s : After) (a : ℕ) : Type 0 where
  Guards : is_some (s.sequences.guard a) ≡ true → IsBusy s a
  Writes : writes_map (s.locks.map a) ≡ true → IsBusy s a
  Locks : (f : Frame) → s.locks.frame f ≡ Some a → IsBusy s a

-- an entry is due to it
pub record HasEntry (c : Program) (h : List Entry) (a : ℕ) : Type 0 where
  pub entry : Entry
  pub is_due : due c h a ≡ Progress.Did entry

-- after each history of entries that were due
abbrev pub BusyGoesOn : Type 0
BusyGoesOn = (c : Program) → IsScript c → (h : List Entry) → DueFrom c [] h → (a : ℕ) → IsBusy (after h) a
    → HasEntry c h a
