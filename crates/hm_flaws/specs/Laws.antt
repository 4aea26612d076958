-- The laws, as statements.
use Rattle.std.specs.Prelude.{◌≡◌, ℕ, Some, List, []}
use Rattle.hm_base.specs.Program.{Program, IsScript}
use Rattle.hm_history.specs.Kernel.Due.{due_in}
use Rattle.hm_history.specs.Laws.{DueFrom}
use Rattle.hm_history.specs.declared.Entry.{Entry}
use Rattle.hm_flaws.specs.declared.flaws.Flaw.{Flaw}
use Rattle.hm_flaws.specs.Flawed.{Flawed, due_by, with_seqs, flawed_after}
use Rattle.hm_flaws.specs.Parts.{Part, all_parts, answers_alone}
use Rattle.hm_flaws.specs.Judged.{Breaks, BreaksNone, judged}
use Rattle.hm_flaws.specs.Closed.{TellsApart, AllSafe}
use Rattle.hm_flaws.specs.Races.{FlawBreaks, FlawSticks, loaded_and_unmapped, moved_and_stored, moved_and_removed}
use Rattle.hm_flaws.specs.Races.{told_before_commit, unmapped_before_load, stored_after_copy, lost_and_withdrawn}

-- what is due to an actor of the right driver is what is due in its state
abbrev pub RightIsDue : Type 0
RightIsDue = (c : Program) (t : Flawed) (a : ℕ) → due_by Flaw.NoFlaw c t a ≡ due_in c t.state a

-- the driver has the table of the state, and intervals with its sequences are those of the state; nothing is left to be
-- erased
pub record HasItsOwn (t : Flawed) : Type 0 where
  pub table : t.driver.table ≡ t.state.after.places.table
  pub seqs : (m : ℕ) → with_seqs t.driver.seq t.state.after.sequences.interval m ≡ t.state.after.sequences.interval m
  pub late : (a : ℕ) → t.driver.late a ≡ []

-- the right driver has its own after any entries, be they due or not
abbrev pub RightKeepsItsOwn : Type 0
RightKeepsItsOwn = (c : Program) (h es : List Entry) → HasItsOwn (flawed_after Flaw.NoFlaw c h es)

-- the right driver breaks no part of legality, after a set-up of entries that were due, whichever parts are asked for
abbrev pub RightBreaksNone : Type 0
RightBreaksNone =
    (parts : List Part) (c : Program) → IsScript c → (h : List Entry) → DueFrom c [] h
    → BreaksNone parts Flaw.NoFlaw c h

-- if turns are judged to break a part, they are a race in which the driver breaks it
abbrev pub JudgedBreaks : Type 0
JudgedBreaks =
    (parts : List Part) (l : Flaw) (c : Program) (h : List Entry) (turns : List ℕ) (e : Entry) (part : Part)
    → (judged parts l c h turns).broken ≡ Some (e, part)
    → Breaks parts l c h (judged parts l c h turns).entries e part

-- a search with nothing left to look at, in which no entry breaks a part, has shown that the driver breaks none, in
-- whatever order the actors take turns
abbrev pub ClosedBreaksNone : Type 0
ClosedBreaksNone =
    (parts : List Part) (l : Flaw) (c : Program) (h : List Entry) (key : List Entry → List ℕ) (ks : List (List ℕ))
    → TellsApart parts l c h key → AllSafe parts l c h key ks → BreaksNone parts l c h

-- a driver that commits without comparing sequences uses an entry of whose page its mirror was told, with the eighth
-- entry of a race; with the twelfth one of another it loads a byte of a page that is not mapped any more
abbrev pub UncomparedIsStale : Type 0
UncomparedIsStale =
    FlawBreaks all_parts Flaw.NotCompared loaded_and_unmapped 8 told_before_commit Part.Untold
    × FlawBreaks answers_alone Flaw.NotCompared loaded_and_unmapped 8 unmapped_before_load Part.Answers

-- if a driver ignores the invalidations for its own device's migrations, a store of the device is lost: it goes to the
-- old frame after that was copied, and the load that comes with the twenty-second entry does not find it
abbrev pub OwnIgnoredLosesStore : Type 0
OwnIgnoredLosesStore = FlawBreaks answers_alone Flaw.OwnIgnored moved_and_stored 13 stored_after_copy Part.Answers

-- legality says nothing of a frame that is never dropped: a driver that holds the frame of a lost page breaks no part
-- of it, and the removal of its device waits for ever
abbrev pub LostHeldSticks : Type 0
LostHeldSticks = FlawSticks Flaw.LostHeld moved_and_removed 3 lost_and_withdrawn
