use Rattle.hm_race_top.proofs.Right.{same_end}
use Rattle.hm_race_top.proofs.text.conditions.laws.same_end.Goals as goal

pub returns : goal.returns
returns c = same_end
