use Rattle.hm_race_top.proofs.Absent.{seen_is_right}
use Rattle.hm_race_top.proofs.text.conditions.laws.seen_is_right.Goals as goal

pub returns : goal.returns
returns c = seen_is_right
