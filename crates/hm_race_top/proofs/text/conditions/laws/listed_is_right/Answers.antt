use Rattle.hm_race_top.proofs.Right.{listed_is_right}
use Rattle.hm_race_top.proofs.text.conditions.laws.listed_is_right.Goals as goal

pub returns : goal.returns
returns c = listed_is_right
