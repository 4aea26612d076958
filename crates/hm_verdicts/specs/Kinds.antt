-- Kinds of events.
use Rattle.std.specs.Prelude.{Bool, true, false, ◌||◌}
use Rattle.hm_protocol.specs.declared.events.Event.{Event}

-- of intervals and of invalidations
abbrev pub is_of_notifiers : Event → Bool
is_of_notifiers (Event.Insert m p r d) = true
is_of_notifiers (Event.Remove m) = true
is_of_notifiers (Event.Removed m) = true
is_of_notifiers (Event.Start p r why d) = true
is_of_notifiers (Event.End p r) = true
is_of_notifiers (Event.Tell m r q) = true
is_of_notifiers (Event.Told m q done) = true
is_of_notifiers x = false

-- of a look-up, or of a mirror's table
abbrev pub is_of_tables : Event → Bool
is_of_tables (Event.Begin m q) = true
is_of_tables (Event.Walk m r q locked d) = true
is_of_tables (Event.Found m v f w) = true
is_of_tables (Event.Walked m done) = true
is_of_tables (Event.Set m v f w) = true
is_of_tables (Event.Erase m v) = true
is_of_tables x = false

-- of those
abbrev pub is_of_mirrors : Event → Bool
is_of_mirrors x = is_of_notifiers x || is_of_tables x
