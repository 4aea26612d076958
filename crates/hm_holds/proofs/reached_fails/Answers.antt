use Rattle.hm_holds.proofs.Sure.{reached_fails}
use Rattle.hm_holds.proofs.reached_fails.Goals as goal

pub returns : goal.returns
returns c = reached_fails c.turns_are_judged.ensures c.held_races_are_systems.ensures
