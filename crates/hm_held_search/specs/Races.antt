-- The race of a driver with a flaw, of which only the orders of turns are looked at that keep some holds.
use Rattle.std.specs.Prelude.{◌≡◌, ◌-◌, Option, Some, None, List, length, map, slice_get}
use Rattle.hm_history.specs.declared.Entry.{Entry}
use Rattle.hm_flaws.specs.declared.parts.Part.{Part}
use Rattle.hm_flaw_parts.specs.Judged.{judged_parts}
use Rattle.hm_flaw_search.specs.Races.{FlawRaceValue}
use Rattle.hm_flaw_states.specs.Keyed.{broken_in, entries_in}
use Rattle.hm_flaw_states.specs.declared.key.FlawKey.{FlawKey}
use Rattle.hm_search.specs.Systems.{SystemValue}
use Rattle.hm_holds.specs.Held.{HeldPoint, held_system}
use Rattle.hm_holds.specs.Holds.{hold_next}
use Rattle.hm_holds.specs.declared.holds.Hold.{Hold}
use Rattle.hm_holds.specs.declared.holds.HoldState.{HoldState}
use Rattle.hm_held_search.specs.declared.keys.HeldKey.{HeldKey}

-- the race, if the orders of turns keep these holds
abbrev pub held_value : FlawRaceValue → List Hold → SystemValue HeldPoint HeldPoint
held_value r ds = held_system (judged_parts r.judging) r.flaw r.script r.set_up ds

-- the holds after this entry, if there is one
abbrev pub holds_last : List HoldState → Option Entry → List HoldState
holds_last ss None = ss
holds_last ss (Some e) = map (λ s. hold_next s e) ss

-- the holds after the last of these entries, unless one broke a part after it
abbrev pub holds_on : List HoldState → Option (Entry × Part) → List Entry → List HoldState
holds_on ss (Some y) es = ss
holds_on ss None es = holds_last ss (slice_get es (length es - 1))

-- the holds after the entry that led to a key, if they were these before it
abbrev pub holds_by : FlawKey → List HoldState → List HoldState
holds_by n ss = holds_on ss (broken_in n) (entries_in n)

-- a key that was made of this one of the race, if the holds were these before the entry that led there
pub record IsMade (n : FlawKey) (ss : List HoldState) (k : HeldKey) : Type 0 where
  pub race : k.race ≡ n
  pub holds : k.holds.items ≡ holds_by n ss
