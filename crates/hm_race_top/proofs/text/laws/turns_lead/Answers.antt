use Rattle.hm_race_top.proofs.Schedules.{turns_lead}
use Rattle.hm_race_top.proofs.text.laws.turns_lead.Goals as goal

pub returns : goal.returns
returns c = turns_lead
