use Rattle.std.specs.Rc.{rc_value}
use Rattle.std.specs.Prelude.{map}
use Rattle.hm_race_states.proofs.AreaLists.{spaces_start}
use Rattle.hm_race_states.proofs.spaces.RaceSpaces.start.Goals as goal

pub returns : goal.returns
returns c = spaces_start (map rc_value c.in_ok-nothing_mapped.field-0.items) c.in_ok-nothing_mapped.ensures
