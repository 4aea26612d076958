-- The records of an actor's migration, which states share.
use Rattle.std.specs.Prelude.{Option, None, Some, List, []}
use Rattle.std.specs.Global.{Global}
use Rattle.std.specs.declared.rc.Rc.{Rc}
use Rattle.hm_actors.specs.Actors.{RecordsValue}
use Rattle.hm_history.specs.declared.phases.Migrating.{Migrating}

-- the records that are kept; none are kept if there is none
abbrev pub records_in : Option (Rc RecordsValue Global) → List Migrating
records_in None = []
records_in (Some x) = x.value.items
