-- What the version of a script decides: nothing of its histories.
use Rattle.std.specs.Prelude.{◌≡◌, List, ◌↔◌}
use Rattle.hm_base.specs.Program.{Program}
use Rattle.hm_base.specs.declared.ops.Version.TheVariants.{Two}
use Rattle.hm_history.specs.Kernel.Run.{run}
use Rattle.hm_history.specs.Kernel.Legal.{Legal}
use Rattle.hm_history.specs.declared.Entry.{Entry}

-- the script under version 2
abbrev pub upgraded : Program → Program
upgraded c = record c { version = Two }

-- the two have the same run
abbrev pub SameRun : Type 0
SameRun = (c : Program) → run (upgraded c) ≡ run c

-- a history is legal for the one exactly where it is for the other
abbrev pub SameLegal : Type 0
SameLegal = (c : Program) (h : List Entry) → Legal (upgraded c) h ↔ Legal c h
