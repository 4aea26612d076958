-- The point that a key stands for, and the entries that led to it.
use Rattle.std.specs.Prelude.{ℕ, Option, List, map, option_map}
use Rattle.std.specs.Rc.{rc_value}
use Rattle.hm_history.specs.declared.Entry.{Entry}
use Rattle.hm_flaws.specs.declared.parts.Part.{Part}
use Rattle.hm_flaw_states.specs.Owns.{driver_in}
use Rattle.hm_race_keys.specs.Sparse.{mixed}
use Rattle.hm_flaw_parts.specs.Buckets.{marks_number}
use Rattle.hm_flaw_parts.specs.Marks.{marks_in}
use Rattle.hm_flaw_parts.specs.Races.Races.{FlawPoint}
use Rattle.hm_flaw_states.specs.Buckets.{state_number, driver_number}
use Rattle.hm_flaw_states.specs.States.{state_in}
use Rattle.hm_flaw_states.specs.declared.key.BrokenBy.{BrokenBy}
use Rattle.hm_flaw_states.specs.declared.key.FlawKey.{FlawKey}

-- the part that an entry broke
abbrev pub part_of : BrokenBy → Part
part_of x = x.part

-- the entry with the part that it broke
abbrev pub break_of : BrokenBy → Entry × Part
break_of x = (x.entry.value, x.part)

-- the state of the driver, the marks of its history, and the part that was broken, if one was
abbrev pub form_in : FlawKey → FlawPoint
form_in k = record {
  flawed = record { state = state_in k.state.value; driver = driver_in k.own.value };
  marked = marks_in k.marks.value;
  broken = option_map part_of k.broken;
}

-- the entries after the set-up, but for one that broke a part
abbrev pub entries_in : FlawKey → List Entry
entries_in k = map rc_value k.trail.items

-- the entry that broke a part, with that part
abbrev pub broken_in : FlawKey → Option (Entry × Part)
broken_in k = option_map break_of k.broken

-- the number of a point: those of its state, of what its driver has of its own, and of its marks
abbrev pub point_number : FlawPoint → ℕ
point_number x = marks_number (mixed (state_number x.flawed.state) (driver_number x.flawed.driver)) x.marked

-- the number of a key
abbrev pub key_number : FlawKey → ℕ
key_number k = point_number (form_in k)
