-- What turns of such a race come to, in the words of entries that were due to the driver.
use Rattle.std.specs.Prelude.{◌≡◌, ℕ, ◌+◌, Bool, true, false, ◌&&◌, Some, None, is_none, is_some, List, ◌++◌, length}
use Rattle.hm_base.specs.Program.{Program}
use Rattle.hm_history.specs.declared.Entry.{Entry}
use Rattle.hm_flaws.specs.declared.flaws.Flaw.{Flaw}
use Rattle.hm_flaws.specs.declared.parts.Part.{Part}
use Rattle.hm_flaws.specs.Flawed.{flawed_after}
use Rattle.hm_flaws.specs.Judged.{Judged, Unbroken, Breaks, judged}
use Rattle.hm_flaws.specs.Races.{is_stuck, part_in}
use Rattle.hm_search.specs.Systems.{point_at}
use Rattle.hm_flaw_parts.specs.Races.Races.{FlawPoint, marked_of, point_from, entries_at, flaw_system, is_found}

-- ---- points

-- the point after turns of these actors
abbrev pub point_after : List Part → Flaw → Program → List Entry → List ℕ → FlawPoint
point_after parts l c h turns = point_at (flaw_system parts l c h) turns

-- the point of turns that are judged to come to this
abbrev pub point_of : Program → List Entry → Judged → FlawPoint
point_of c h x = record { flawed = x.flawed; marked = marked_of c (h ++ x.entries); broken = part_in x.broken }

-- each turn added an entry
abbrev pub EachAdds : List Part → Flaw → Program → List Entry → List ℕ → Type 0
EachAdds parts l c h turns =
    entries_at (point_after parts l c h turns) ≡ entries_at (point_from c h) + length turns

-- ---- a part is broken

-- a part was broken
abbrev pub breaks_at : FlawPoint → Bool
breaks_at x = is_some x.broken

-- no turns break a part
abbrev pub NoTurnsBreak : List Part → Flaw → Program → List Entry → Type 0
NoTurnsBreak parts l c h = (turns : List ℕ) → (point_after parts l c h turns).broken ≡ None

-- turns are a race in which the driver breaks this part, with the last of them if each adds an entry
pub record TurnsBreak (parts : List Part) (l : Flaw) (c : Program) (h : List Entry) (turns : List ℕ) (part : Part)
    : Type 0 where
  pub entry : Entry
  pub broken : (judged parts l c h turns).broken ≡ Some (entry, part)
  pub breaks : Breaks parts l c h (judged parts l c h turns).entries entry part
  pub each : EachAdds parts l c h turns → length (judged parts l c h turns).entries + 1 ≡ length turns

-- ---- nobody can go on

-- entries that were due to the driver and break none of the parts, after which nobody can go on, and some operation has
-- not ended
pub record Sticks (parts : List Part) (l : Flaw) (c : Program) (h es : List Entry) : Type 0 where
  pub unbroken : Unbroken parts l c h es
  pub stuck : is_stuck l c (flawed_after l c h es) ≡ true

-- as long as no part is broken, somebody can go on, or all operations have ended
abbrev pub NeverSticks : List Part → Flaw → Program → List Entry → Type 0
NeverSticks parts l c h =
    (es : List Entry) → Unbroken parts l c h es → is_stuck l c (flawed_after l c h es) ≡ false

-- turns are a race after which nobody can go on
pub record TurnsStick (parts : List Part) (l : Flaw) (c : Program) (h : List Entry) (turns : List ℕ) : Type 0 where
  pub unbroken : (judged parts l c h turns).broken ≡ None
  pub sticks : Sticks parts l c h (judged parts l c h turns).entries
  pub each : EachAdds parts l c h turns → length (judged parts l c h turns).entries ≡ length turns

-- no part was broken, and nobody can go on, though some operation has not ended
abbrev pub sticks_at : Flaw → Program → FlawPoint → Bool
sticks_at l c x = is_none x.broken && is_stuck l c x.flawed

-- no turns come to where nobody can go on
abbrev pub NoTurnsStick : List Part → Flaw → Program → List Entry → Type 0
NoTurnsStick parts l c h = (turns : List ℕ) → sticks_at l c (point_after parts l c h turns) ≡ false

-- ---- either

-- no turns break a part, or come to where nobody can go on
abbrev pub NoTurnsFind : List Part → Flaw → Program → List Entry → Type 0
NoTurnsFind parts l c h = (turns : List ℕ) → is_found l c (point_after parts l c h turns) ≡ false
