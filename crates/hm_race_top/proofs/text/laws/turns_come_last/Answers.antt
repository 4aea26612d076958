use Rattle.hm_race_top.proofs.Last.{turns_come_last}
use Rattle.hm_race_top.proofs.text.laws.turns_come_last.Goals as goal

pub returns : goal.returns
returns c = turns_come_last
