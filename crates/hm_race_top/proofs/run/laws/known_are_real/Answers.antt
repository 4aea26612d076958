use Rattle.hm_race_top.proofs.Outcomes.{known_are_real}
use Rattle.hm_race_top.proofs.run.laws.known_are_real.Goals as goal

pub returns : goal.returns
returns c = known_are_real
