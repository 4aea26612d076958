use Rattle.hm_race_top.proofs.Schedules.{turns_stand}
use Rattle.hm_race_top.proofs.text.laws.turns_stand.Goals as goal

pub returns : goal.returns
returns c = turns_stand
