-- What one search says of holds.
use Rattle.std.specs.Prelude.{◌≡◌, ℕ, ◌<◌, ◌≤◌, true, false, Option, Some, None, List, length, get_or}
use Rattle.hm_flaw_parts.specs.Judged.{judged_parts}
use Rattle.hm_flaw_search.specs.Races.{FlawRaceValue}
use Rattle.hm_race_laws.specs.Closed.{AreDistinct}
use Rattle.hm_search.specs.Known.{AreKnown, HaveForms, KnownValue, forms, turns_at}
use Rattle.hm_search.specs.Values.{all_known, key_forms}
use Rattle.hm_search.specs.declared.known.Known.{Known}
use Rattle.hm_search.specs.declared.search.End.{End}
use Rattle.hm_holds.specs.Held.{HeldPoint, is_dead}
use Rattle.hm_holds.specs.Orders.{AreSure, TurnsFail}
use Rattle.hm_holds.specs.declared.holds.Hold.{Hold}
use Rattle.hm_held_search.specs.Keys.{held_form}
use Rattle.hm_held_search.specs.Races.{held_value}
use Rattle.hm_held_search.specs.declared.keys.HeldKey.{HeldKey}
use Rattle.hm_held_search.specs.declared.tried.Tried.{Tried}

-- every order of turns of the race that keeps the holds goes wrong
abbrev pub GoWrong : FlawRaceValue → List Hold → Type 0
GoWrong r ds = AreSure (judged_parts r.judging) r.flaw r.script r.set_up ds

-- these turns keep the holds, and come to where no actor may go on and nothing went wrong
abbrev pub FailBy : FlawRaceValue → List Hold → List ℕ → Type 0
FailBy r ds turns = TurnsFail (judged_parts r.judging) r.flaw r.script r.set_up ds turns

-- orders of turns that keep the holds come to so many states at least, each counted once
pub record ComeTo (r : FlawRaceValue) (ds : List Hold) (n : ℕ) : Type 0 where
  pub known : List (KnownValue HeldPoint)
  pub each : AreKnown (held_value r ds) known
  pub once : AreDistinct (forms known)
  pub count : n ≡ length known

-- every order goes wrong, and the orders come to just so many states, which are at most as many as were asked for
pub record IsSure (r : FlawRaceValue) (ds : List Hold) (most n : ℕ) : Type 0 where
  pub wrong : GoWrong r ds
  pub known : List (KnownValue HeldPoint)
  pub each : AreKnown (held_value r ds) known
  pub once : AreDistinct (forms known)
  pub all : HaveForms (held_value r ds) known
  pub count : n ≡ length known
  pub few : n ≤ most

-- what a search says of holds that was to stop at this many states
abbrev pub IsTried : FlawRaceValue → List Hold → ℕ → Tried → Type 0
IsTried r ds most (Tried.Sure n) = IsSure r ds most n
IsTried r ds most (Tried.Fails turns) = FailBy r ds turns.items
IsTried r ds most (Tried.Cut n) = (most < n) × ComeTo r ds n

-- some holds are kept by orders that come to more states than were asked for
pub record ArePast (r : FlawRaceValue) (most : ℕ) : Type 0 where
  pub holds : List Hold
  pub states : ℕ
  pub more : most < states
  pub come : ComeTo r holds states

-- ---- by the states that the search knows

-- the place of the first of these points that is a dead end; none if none is
abbrev pub IsDeadPlace : FlawRaceValue → List HeldPoint → Option ℕ → Type 0
IsDeadPlace r xs None = (i : ℕ) → i < length xs → (x : HeldPoint) → is_dead r.flaw r.script (get_or xs i x) ≡ false
IsDeadPlace r xs (Some at) = (at < length xs) × ((x : HeldPoint) → is_dead r.flaw r.script (get_or xs at x) ≡ true)

-- these turns lead to a dead end
pub record IsDeadAt (r : FlawRaceValue) (ns : List (Known HeldKey)) (turns : List ℕ) : Type 0 where
  pub place : ℕ
  pub dead : IsDeadPlace r (key_forms held_form ns) (Some place)
  pub turns_are : turns ≡ turns_at (all_known held_form ns) place

-- what is said if one of these is a dead end
abbrev pub IsDeadBy : FlawRaceValue → List (Known HeldKey) → Tried → Type 0
IsDeadBy r ns (Tried.Sure n) = ⊥
IsDeadBy r ns (Tried.Fails turns) = IsDeadAt r ns turns.items
IsDeadBy r ns (Tried.Cut n) = IsDeadPlace r (key_forms held_form ns) None

-- what is said of these states, if the search ended so
abbrev pub IsSaid : FlawRaceValue → List (Known HeldKey) → End → Tried → Type 0
IsSaid r ns End.Whole t = t ≡ Tried.Sure (length ns)
IsSaid r ns End.Cut t = t ≡ Tried.Cut (length ns)
IsSaid r ns End.Reached t = IsDeadBy r ns t
