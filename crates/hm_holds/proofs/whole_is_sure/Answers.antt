use Rattle.hm_holds.proofs.Sure.{whole_is_sure}
use Rattle.hm_holds.proofs.whole_is_sure.Goals as goal

pub returns : goal.returns
returns c = whole_is_sure c.turns_are_judged.ensures c.held_races_are_systems.ensures
