-- The laws, as statements.
use Rattle.std.specs.Prelude.{◌≡◌, ℕ, ◌+◌, ◌≤◌, true, Some, List, length}
use Rattle.hm_base.specs.Program.{Program, IsScript}
use Rattle.hm_history.specs.declared.Entry.{Entry}
use Rattle.hm_flaws.specs.Judged.{judged}
use Rattle.hm_flaws.specs.Races.{part_in}
use Rattle.hm_flaws.specs.declared.flaws.Flaw.{Flaw}
use Rattle.hm_flaws.specs.declared.parts.Part.{Part}
use Rattle.hm_flaw_parts.specs.Races.Judging.{TurnsBreak}
use Rattle.hm_race_laws.specs.Closed.{IsListed}
use Rattle.hm_search.specs.Goals.{AreMissed}
use Rattle.hm_search.specs.Known.{AreKnown, HaveForms, KnownValue}
use Rattle.hm_search.specs.Systems.{IsSystem, point_at}
use Rattle.hm_holds.specs.declared.holds.Hold.{Hold}
use Rattle.hm_holds.specs.Held.{HeldPoint, held_of, held_system, is_dead}
use Rattle.hm_holds.specs.Orders.{AreSure, Keeps, OrderBreaks, TurnsFail}

-- ---- the system

-- a race of a driver with a flaw, after a set-up that is not too long and with any holds, is a system that can be
-- searched
abbrev pub HeldRacesAreSystems : Type 0
HeldRacesAreSystems =
    (parts : List Part) (l : Flaw) (c : Program) → IsScript c → (h : List Entry) → length h ≤ 2000000
    → (ds : List Hold) → IsSystem (held_system parts l c h ds)

-- the point after turns that keep the holds is that of what they are judged to come to
abbrev pub KeptTurnsAreJudged : Type 0
KeptTurnsAreJudged =
    (parts : List Part) (l : Flaw) (c : Program) (h : List Entry) (ds : List Hold) (turns : List ℕ)
    → Keeps parts l c h ds turns
    → point_at (held_system parts l c h ds) turns ≡ held_of c h ds (judged parts l c h turns)

-- ---- what goes wrong

-- if turns that keep the holds break a part, they are a race in which the driver breaks it, with the last of them
abbrev pub KeptTurnsBreak : Type 0
KeptTurnsBreak =
    (parts : List Part) (l : Flaw) (c : Program) → IsScript c → (h : List Entry) → length h ≤ 2000000
    → (ds : List Hold) (turns : List ℕ) → Keeps parts l c h ds turns
    → (part : Part) → part_in (judged parts l c h turns).broken ≡ Some part
    → TurnsBreak parts l c h turns part × (length (judged parts l c h turns).entries + 1 ≡ length turns)

-- if every order of turns that keeps the holds goes wrong, there is one, which is such a race
abbrev pub SureBreaks : Type 0
SureBreaks =
    (parts : List Part) (l : Flaw) (c : Program) → IsScript c → (h : List Entry) → length h ≤ 2000000
    → (ds : List Hold) → AreSure parts l c h ds → OrderBreaks parts l c h ds

-- ---- searches

-- a search that knows the form after all turns, and no state that is a dead end, has shown that every order of turns
-- that keeps the holds goes wrong
abbrev pub WholeIsSure : Type 0
WholeIsSure =
    (parts : List Part) (l : Flaw) (c : Program) → IsScript c → (h : List Entry) → length h ≤ 2000000
    → (ds : List Hold) (known : List (KnownValue HeldPoint)) → AreKnown (held_system parts l c h ds) known
    → HaveForms (held_system parts l c h ds) known → AreMissed (is_dead l c) known → AreSure parts l c h ds

-- the turns of a known state that is a dead end keep the holds and do not go wrong
abbrev pub ReachedFails : Type 0
ReachedFails =
    (parts : List Part) (l : Flaw) (c : Program) → IsScript c → (h : List Entry) → length h ≤ 2000000
    → (ds : List Hold) (known : List (KnownValue HeldPoint)) → AreKnown (held_system parts l c h ds) known
    → (n : KnownValue HeldPoint) → IsListed known n → is_dead l c n.form ≡ true → TurnsFail parts l c h ds n.turns
