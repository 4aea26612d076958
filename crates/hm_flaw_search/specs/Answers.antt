-- What a search for races of a driver says: the race that it found, or that there is none.
use Rattle.std.specs.Prelude.{◌≡◌, ◌↔◌, ℕ, ◌+◌, ◌≤◌, Bool, true, false, List, length, ⊤}
use Rattle.hm_base.specs.Program.{Program}
use Rattle.hm_history.specs.declared.Entry.{Entry}
use Rattle.hm_race_laws.specs.Closed.{AreDistinct}
use Rattle.hm_flaws.specs.declared.flaws.Flaw.{Flaw}
use Rattle.hm_flaws.specs.declared.parts.Part.{Part}
use Rattle.hm_flaws.specs.Judged.{Breaks, BreaksNone}
use Rattle.hm_search.specs.Goals.{AreMissed, IsSoon, Reaches}
use Rattle.hm_search.specs.Known.{KnownValue, AreKnown, HaveForms, IsCut, IsNear, forms}
use Rattle.hm_search.specs.declared.search.End.{End}
use Rattle.hm_flaw_parts.specs.Races.Races.{FlawPoint, flaw_system}
use Rattle.hm_flaw_parts.specs.Races.Judging.{NeverSticks, Sticks, breaks_at, sticks_at}
use Rattle.hm_flaw_parts.specs.Races.Shortest.{BreakLater, StickLater}
use Rattle.hm_flaw_search.specs.Owing.{IsOwed, race_entries}
use Rattle.hm_flaw_search.specs.Unused.{IsUnused}
use Rattle.hm_flaw_search.specs.Outcomes.{race_length}
use Rattle.hm_flaw_search.specs.declared.answer.Answer.{Answer}
use Rattle.hm_flaw_search.specs.declared.answer.Found.{Found}

-- ---- what was found

-- a race in which the driver breaks a part, and none breaks one with fewer entries; or one after which nobody can go
-- on, and after no fewer entries that is so
abbrev pub IsFound : List Part → Flaw → Program → List Entry → Found → Type 0
IsFound parts l c h (Found.Broken es e part) = Breaks parts l c h es e part × BreakLater parts l c h (length es + 1)
IsFound parts l c h (Found.Stuck es) = Sticks parts l c h es × StickLater parts l c h (length es)
IsFound parts l c h Found.Nothing = ⊤

-- a race was found in which a part is broken
abbrev pub is_broken : Found → Bool
is_broken (Found.Broken es e part) = true
is_broken found = false

-- ---- what a search says

-- all states are known, which are at most as many as were asked for, and so the driver breaks no part
pub record IsWhole (parts : List Part) (l : Flaw) (c : Program) (h : List Entry) (most : ℕ)
    (known : List (KnownValue FlawPoint)) : Type 0 where
  pub all : HaveForms (flaw_system parts l c h) known
  pub none : BreaksNone parts l c h
  pub few : length known ≤ most

-- the search stopped after the step in which it came to a state at which a part is broken: one of the known states is
-- such a state, only the last of them can be, and they are not many more than were asked for
pub record HasCome (c : Program) (most : ℕ) (known : List (KnownValue FlawPoint)) : Type 0 where
  pub came : Reaches breaks_at known
  pub soon : IsSoon (length c.actors) breaks_at known
  pub near : IsNear (length c.actors) most (length known)

-- what an answer says of the race of a script after the set-up h, if the driver has this flaw and is judged by these
-- parts, and the search was to stop at this many states
pub record IsAnswer (parts : List Part) (l : Flaw) (c : Program) (h : List Entry) (most : ℕ) (a : Answer)
    : Type 0 where
  pub known : List (KnownValue FlawPoint)
  pub states : a.states ≡ length known
  pub searched : AreKnown (flaw_system parts l c h) known
  pub once : AreDistinct (forms known)
  pub found : IsFound parts l c h a.found
  pub long : length h + race_length a.found ≤ 2000000
  pub whole : a.end ≡ End.Whole → IsWhole parts l c h most known
  pub never : a.end ≡ End.Whole → a.found ≡ Found.Nothing → NeverSticks parts l c h
  pub cut : a.end ≡ End.Cut → IsCut (length c.actors) most (length known)
  pub stopped : a.end ≡ End.Reached → HasCome c most known
  pub missed : ¬ (a.end ≡ End.Reached) → AreMissed breaks_at known
  pub seen : a.found ≡ Found.Nothing → AreMissed (sticks_at l c) known
  pub reached : (a.end ≡ End.Reached) ↔ (is_broken a.found ≡ true)
  pub right : l ≡ Flaw.NoFlaw → a.found ≡ Found.Nothing
  pub unused : (a.unused ≡ true) ↔ IsUnused parts l c h a.end a.found
  pub owed : IsOwed l c h (race_entries a.found) a.owed
