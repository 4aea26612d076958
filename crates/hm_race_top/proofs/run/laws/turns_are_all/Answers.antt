use Rattle.hm_race_top.proofs.Outcomes.{turns_are_all}
use Rattle.hm_race_top.proofs.run.laws.turns_are_all.Goals as goal

pub returns : goal.returns
returns c = turns_are_all
