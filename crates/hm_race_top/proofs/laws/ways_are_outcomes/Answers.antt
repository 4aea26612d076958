use Rattle.hm_race_top.proofs.WaysKnown.{ways_are_outcomes}
use Rattle.hm_race_top.proofs.laws.ways_are_outcomes.Goals as goal

pub returns : goal.returns
returns c = ways_are_outcomes
