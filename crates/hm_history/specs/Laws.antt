-- What holds of each run.
use Rattle.std.specs.Prelude.{◌≡◌, List, [], ◌∷◌, ◌++◌, ⊤}
use Rattle.hm_base.specs.Program.{Program}
use Rattle.hm_history.specs.Kernel.Due.{due}
use Rattle.hm_history.specs.Kernel.Run.{run}
use Rattle.hm_history.specs.declared.Entry.{Entry}
use Rattle.hm_history.specs.declared.Progress.{Progress}

-- each entry was due after those before it
abbrev pub DueFrom : Program → List Entry → List Entry → Type 0
DueFrom c h [] = ⊤
DueFrom c h (e ∷ es) = (due c h e.actor ≡ Progress.Did e) × DueFrom c (h ++ e ∷ []) es

-- the entries of each run were due in their order
abbrev pub RunsAreDue : Type 0
RunsAreDue = (c : Program) → DueFrom c [] (run c)
