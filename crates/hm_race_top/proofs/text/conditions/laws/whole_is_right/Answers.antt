use Rattle.hm_race_top.proofs.Right.{whole_is_right}
use Rattle.hm_race_top.proofs.text.conditions.laws.whole_is_right.Goals as goal

pub returns : goal.returns
returns c = whole_is_right
