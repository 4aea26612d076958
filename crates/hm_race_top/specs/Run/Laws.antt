-- The laws, as statements.
use Rattle.std.specs.Prelude.{◌≤◌, List, [], length}
use Rattle.hm_base.specs.Program.{Program, IsScript}
use Rattle.hm_history.specs.Laws.{DueFrom}
use Rattle.hm_history.specs.declared.Entry.{Entry}
use Rattle.hm_search.specs.Known as search
use Rattle.hm_search.specs.Systems.{IsSystem}
use Rattle.hm_race_top.specs.Run.Systems.{race_of}
use Rattle.hm_race_top.specs.Run.Known.{KnownValue, AreKnown, AreReal, HaveForms, IsComplete}

-- a race after a set-up of entries that were due, and which is not too long, is a system that can be searched
abbrev pub RacesAreSystems : Type 0
RacesAreSystems =
    (c : Program) → IsScript c → (h : List Entry) → DueFrom c [] h → length h ≤ 2000000 → IsSystem (race_of c h)

-- if the form after all turns is known, so is that of each state to which the race comes
abbrev pub TurnsAreAll : Type 0
TurnsAreAll =
    (c : Program) (h : List Entry) (known : List KnownValue) → search.HaveForms (race_of c h) known
    → HaveForms c h known

-- if the form of each state is known, so is each outcome
abbrev pub FormsHaveOutcomes : Type 0
FormsHaveOutcomes =
    (c : Program) (h : List Entry) (known : List KnownValue) → AreKnown c h known → HaveForms c h known
    → IsComplete c h known

-- the outcomes of states that are known are real
abbrev pub KnownAreReal : Type 0
KnownAreReal = (c : Program) (h : List Entry) (known : List KnownValue) → AreKnown c h known → AreReal c h known
