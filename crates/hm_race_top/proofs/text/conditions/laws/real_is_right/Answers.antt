use Rattle.hm_race_top.proofs.Right.{real_is_right}
use Rattle.hm_race_top.proofs.text.conditions.laws.real_is_right.Goals as goal

pub returns : goal.returns
returns c = real_is_right
