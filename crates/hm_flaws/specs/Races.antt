-- Races that tell why a rule is there: the turns of one, and what they come to.
use Rattle.std.specs.Prelude.{◌≡◌, ℕ, ◌+◌, Bool, true, false, not, ◌&&◌, Option, Some, None, is_none, List, [], ◌∷◌}
use Rattle.std.specs.Prelude.{◌++◌, length, replicate}
use Rattle.std.specs.List.{list_all}
use Rattle.hm_base.specs.Pages.{Pages}
use Rattle.hm_base.specs.Program.{Program}
use Rattle.hm_base.specs.declared.ops.Version.{Version}
use Rattle.hm_base.specs.declared.ops.Rights.{Rights}
use Rattle.hm_base.specs.declared.ops.Op.{Op}
use Rattle.hm_history.specs.Kernel.Run.{turns, run, is_entry, actors_of}
use Rattle.hm_history.specs.declared.Entry.{Entry}
use Rattle.hm_race_laws.specs.Outcomes.{ended_in}
use Rattle.hm_flaws.specs.declared.flaws.Flaw.{Flaw}
use Rattle.hm_flaws.specs.Flawed.{Flawed, due_by}
use Rattle.hm_flaws.specs.Parts.{Part, all_parts}
use Rattle.hm_flaws.specs.Judged.{Judged, judged}

-- ---- what turns show

-- what turns come to after a set-up of n turns of actor 0
abbrev pub comes_to : List Part → Flaw → Program → ℕ → List ℕ → Judged
comes_to parts l c n actors = judged parts l c (turns c [] 0 n) actors

-- the part that was broken
abbrev pub part_in : Option (Entry × Part) → Option Part
part_in None = None
part_in (Some x) = Some x.1

-- each of these turns adds an entry, and the last one is the first that breaks a part, which is this one, if the driver
-- has this flaw; the right driver breaks none in the same turns
pub record FlawBreaks (parts : List Part) (l : Flaw) (c : Program) (n : ℕ) (actors : List ℕ) (part : Part)
    : Type 0 where
  pub flawed : part_in (comes_to parts l c n actors).broken ≡ Some part
  pub each : length (comes_to parts l c n actors).entries + 1 ≡ length actors
  pub right : (comes_to parts Flaw.NoFlaw c n actors).broken ≡ None

-- nothing is due to any actor, and some operation has not ended
abbrev pub is_stuck : Flaw → Program → Flawed → Bool
is_stuck l c t = list_all (λ a. not (is_entry (due_by l c t a))) (actors_of c) && not (ended_in c t.state)

-- these turns break no part of legality, and then nobody can go on, if the driver has this flaw; with the right driver
-- somebody can, or all has ended
pub record FlawSticks (l : Flaw) (c : Program) (n : ℕ) (actors : List ℕ) : Type 0 where
  pub unbroken : (comes_to all_parts l c n actors).broken ≡ None
  pub stuck : is_stuck l c (comes_to all_parts l c n actors).flawed ≡ true
  pub right : is_stuck Flaw.NoFlaw c (comes_to all_parts Flaw.NoFlaw c n actors).flawed ≡ false

-- what a driver comes to in turns: the part of legality that it breaks, if it breaks one, after how many entries, and
-- whether nobody can go on then
pub record ComesTo : Type 0 where
  pub part : Option Part
  pub entries : ℕ
  pub stuck : Bool

-- it breaks this part
abbrev pub broke : Part → ℕ → ComesTo
broke part n = record { part = Some part; entries = n; stuck = false }

-- it breaks none, and somebody can go on, or all has ended
abbrev pub did_not : ℕ → ComesTo
did_not n = record { part = None; entries = n; stuck = false }

-- it breaks none, and nobody can go on, though some operation has not ended
abbrev pub sticks : ℕ → ComesTo
sticks n = record { part = None; entries = n; stuck = true }

-- what is so after turns that are judged to come to this
abbrev pub outcome_in : Flaw → Program → Judged → ComesTo
outcome_in l c x =
    record {
      part = part_in x.broken;
      entries = length x.entries;
      stuck = is_none (part_in x.broken) && is_stuck l c x.flawed;
    }

-- what a driver with this flaw comes to in turns after the run of a script's schedule
abbrev pub outcome_by : Program → List ℕ → Flaw → ComesTo
outcome_by c actors l = outcome_in l c (judged all_parts l c (run c) actors)

-- ---- scripts

-- page 16, which has the address 0x10000
abbrev pub page : Pages
page = record { first = 16; count = 1 }

-- a script of four frames and a device with two, for these actors
abbrev pub small_script : List (List Op) → Program
small_script actors =
    record {
      version = Version.Two;
      frames = 4;
      devices = 2 ∷ [];
      skip = 0;
      actors = actors;
      schedule = [];
    }

-- the page is mapped and written, a mirror attached there, and its device loads a byte
abbrev pub mirrored : List Op
mirrored =
    Op.Map 0 page Rights.ReadWrite
    ∷ Op.Store 0 0x10000 (65 ∷ [])
    ∷ Op.Attach 0 0 0 page
    ∷ Op.DeviceLoad 0 0x10000 1
    ∷ []

-- the device loads while the page is unmapped. The set-up takes 8 turns: it ends when the mirror is attached
abbrev pub loaded_and_unmapped : Program
loaded_and_unmapped = small_script (mirrored ∷ (Op.Unmap 0 page ∷ []) ∷ [])

-- the page is moved to the device, while that stores into it; then it is loaded. The set-up takes 13 turns: it ends
-- when the first load is answered, which has set a table entry
abbrev pub moved_and_stored : Program
moved_and_stored = small_script (
    (mirrored ++ Op.ToDevice 0 page ∷ Op.DeviceLoad 0 0x10000 1 ∷ [])
    ∷ (Op.DeviceStore 0 0x10000 (66 ∷ []) ∷ [])
    ∷ []
    )

-- an untouched page is moved to the device, while a CPU stores into it, and the device is removed. The set-up takes 3
-- turns: it ends when the mirror is attached
abbrev pub moved_and_removed : Program
moved_and_removed = small_script (
    (Op.Map 0 page Rights.ReadWrite ∷ Op.Attach 0 0 0 page ∷ Op.ToDevice 0 page ∷ [])
    ∷ (Op.Store 0 0x10000 (65 ∷ []) ∷ [])
    ∷ (Op.Remove 0 ∷ [])
    ∷ []
    )

-- ---- their turns

-- the look-up walks, the mirror is told and its table erased, and then the look-up commits and the device loads
abbrev pub told_before_commit : List ℕ
told_before_commit = replicate 3 0 ++ replicate 3 1 ++ replicate 2 0

-- the look-up walks, the mirror is told, the look-up commits, the page is unmapped, and then the device loads
abbrev pub unmapped_before_load : List ℕ
unmapped_before_load = replicate 3 0 ++ replicate 3 1 ++ 0 ∷ replicate 4 1 ++ 0 ∷ []

-- the page's frame is copied and committed, the device stores into the old one, and then the migration ends and the
-- device loads
abbrev pub stored_after_copy : List ℕ
stored_after_copy = replicate 15 0 ++ 1 ∷ replicate 6 0

-- a frame of the device was taken, when the CPU's store gives the page another one: the migration finds the page lost
-- and ends, the store is answered, and the device is withdrawn
abbrev pub lost_and_withdrawn : List ℕ
lost_and_withdrawn = replicate 6 0 ++ replicate 3 1 ++ replicate 2 0 ++ replicate 2 1 ++ 2 ∷ []
