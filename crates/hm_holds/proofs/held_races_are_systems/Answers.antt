use Rattle.hm_holds.proofs.HeldSystems.{held_races_are_systems}
use Rattle.hm_holds.proofs.held_races_are_systems.Goals as goal

pub returns : goal.returns
returns c = held_races_are_systems c.flaw_races_are_systems.ensures
