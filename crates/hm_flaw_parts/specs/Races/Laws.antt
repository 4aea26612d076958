-- The laws, as statements.
use Rattle.std.specs.Prelude.{◌≡◌, ℕ, ◌<◌, ◌≤◌, true, false, Some, None, List, [], length}
use Rattle.hm_base.specs.Program.{Program, IsScript}
use Rattle.hm_history.specs.Laws.{DueFrom}
use Rattle.hm_history.specs.declared.Entry.{Entry}
use Rattle.hm_flaws.specs.declared.flaws.Flaw.{Flaw}
use Rattle.hm_flaws.specs.declared.parts.Part.{Part}
use Rattle.hm_flaws.specs.Judged.{BreaksNone, judged}
use Rattle.hm_flaws.specs.Races.{is_stuck}
use Rattle.hm_search.specs.Goals.{AreMissed}
use Rattle.hm_search.specs.Known.{KnownValue, AreKnown, AreRising, HaveFewer, HaveForms}
use Rattle.hm_search.specs.Systems.{IsSystem}
use Rattle.hm_flaw_parts.specs.Races.Races.{FlawPoint, flaw_system}
use Rattle.hm_flaw_parts.specs.Races.Judging.{point_after, point_of, breaks_at, sticks_at, NoTurnsBreak, TurnsBreak}
use Rattle.hm_flaw_parts.specs.Races.Judging.{NeverSticks, NoTurnsStick, TurnsStick, NoTurnsFind}
use Rattle.hm_flaw_parts.specs.Races.Shortest.{IsFirst, BreakLater, StickLater, BreaksSoonest, SticksSoonest}

-- ---- turns

-- a race of a driver with a flaw, after a set-up that is not too long, is a system that can be searched
abbrev pub FlawRacesAreSystems : Type 0
FlawRacesAreSystems =
    (parts : List Part) (l : Flaw) (c : Program) → IsScript c → (h : List Entry) → length h ≤ 2000000
    → IsSystem (flaw_system parts l c h)

-- the point after turns is that of what they are judged to come to
abbrev pub TurnsAreJudged : Type 0
TurnsAreJudged =
    (parts : List Part) (l : Flaw) (c : Program) (h : List Entry) (turns : List ℕ)
    → point_after parts l c h turns ≡ point_of c h (judged parts l c h turns)

-- if turns break a part, they are a race in which the driver breaks it
abbrev pub BrokenTurnsBreak : Type 0
BrokenTurnsBreak =
    (parts : List Part) (l : Flaw) (c : Program) (h : List Entry) (turns : List ℕ) (part : Part)
    → (point_after parts l c h turns).broken ≡ Some part → TurnsBreak parts l c h turns part

-- if turns break no part, and then the driver is stuck, they are a race that comes to that
abbrev pub StuckTurnsStick : Type 0
StuckTurnsStick =
    (parts : List Part) (l : Flaw) (c : Program) (h : List Entry) (turns : List ℕ)
    → (point_after parts l c h turns).broken ≡ None → is_stuck l c (point_after parts l c h turns).flawed ≡ true
    → TurnsStick parts l c h turns

-- ---- all turns

-- if no turns break a part, the driver breaks none
abbrev pub UnbrokenBreaksNone : Type 0
UnbrokenBreaksNone =
    (parts : List Part) (l : Flaw) (c : Program) (h : List Entry) → NoTurnsBreak parts l c h → BreaksNone parts l c h

-- if no turns come to where nobody can go on, the driver is never stuck
abbrev pub UnstuckNeverSticks : Type 0
UnstuckNeverSticks =
    (parts : List Part) (l : Flaw) (c : Program) (h : List Entry) → NoTurnsStick parts l c h → NeverSticks parts l c h

-- if no turns that are fewer than n break a part, no race breaks one with fewer than n entries
abbrev pub UnbrokenBreaksLater : Type 0
UnbrokenBreaksLater =
    (parts : List Part) (l : Flaw) (c : Program) (h : List Entry) (n : ℕ)
    → ((turns : List ℕ) → length turns < n → breaks_at (point_after parts l c h turns) ≡ false)
    → BreakLater parts l c h n

-- if somebody can go on after all turns that are fewer than n, nobody is stuck after fewer than n entries
abbrev pub UnstuckSticksLater : Type 0
UnstuckSticksLater =
    (parts : List Part) (l : Flaw) (c : Program) (h : List Entry) (n : ℕ)
    → ((turns : List ℕ) → length turns < n → sticks_at l c (point_after parts l c h turns) ≡ false)
    → StickLater parts l c h n

-- ---- searches

-- a search that knows the form after all turns, and no state at which a part was broken, has shown that the driver
-- breaks none
abbrev pub WholeBreaksNone : Type 0
WholeBreaksNone =
    (parts : List Part) (l : Flaw) (c : Program) (h : List Entry) (known : List (KnownValue FlawPoint))
    → AreKnown (flaw_system parts l c h) known → HaveForms (flaw_system parts l c h) known
    → AreMissed breaks_at known → BreaksNone parts l c h

-- if it knows no state at which nobody can go on, it has shown that the driver is never stuck
abbrev pub WholeNeverSticks : Type 0
WholeNeverSticks =
    (parts : List Part) (l : Flaw) (c : Program) (h : List Entry) (known : List (KnownValue FlawPoint))
    → AreKnown (flaw_system parts l c h) known → HaveForms (flaw_system parts l c h) known
    → AreMissed (sticks_at l c) known → NeverSticks parts l c h

-- the first known state at which a part was broken is what a race comes to, and none that breaks one is shorter
abbrev pub FirstBreaksSoonest : Type 0
FirstBreaksSoonest =
    (parts : List Part) (l : Flaw) (c : Program) (h : List Entry) (known : List (KnownValue FlawPoint))
    → AreKnown (flaw_system parts l c h) known → HaveFewer (flaw_system parts l c h) known → AreRising known
    → (n : KnownValue FlawPoint) → IsFirst breaks_at known n → BreaksSoonest parts l c h n.turns

-- the first known state at which nobody can go on is what a race comes to, and no such race is shorter
abbrev pub FirstSticksSoonest : Type 0
FirstSticksSoonest =
    (parts : List Part) (l : Flaw) (c : Program) (h : List Entry) (known : List (KnownValue FlawPoint))
    → AreKnown (flaw_system parts l c h) known → HaveFewer (flaw_system parts l c h) known → AreRising known
    → (n : KnownValue FlawPoint) → IsFirst (sticks_at l c) known n → SticksSoonest parts l c h n.turns

-- ---- the right driver

-- after a set-up of entries that were due, no turns of the right driver break a part, whichever parts are asked for
abbrev pub RightTurnsBreakNone : Type 0
RightTurnsBreakNone =
    (parts : List Part) (c : Program) → IsScript c → (h : List Entry) → DueFrom c [] h
    → NoTurnsBreak parts Flaw.NoFlaw c h

-- and nothing is found after them: somebody can go on too, or all operations have ended
abbrev pub RightTurnsFindNone : Type 0
RightTurnsFindNone =
    (parts : List Part) (c : Program) → IsScript c → (h : List Entry) → DueFrom c [] h
    → NoTurnsFind parts Flaw.NoFlaw c h
