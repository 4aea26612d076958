use Rattle.hm_race_top.proofs.WaysKnown.{complete_is_all}
use Rattle.hm_race_top.proofs.laws.complete_is_all.Goals as goal

pub returns : goal.returns
returns c = complete_is_all c.ways_are_shown.ensures
