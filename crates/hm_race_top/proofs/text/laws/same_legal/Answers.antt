use Rattle.hm_race_top.proofs.Schedules.{same_legal}
use Rattle.hm_race_top.proofs.text.laws.same_legal.Goals as goal

pub returns : goal.returns
returns c = same_legal
