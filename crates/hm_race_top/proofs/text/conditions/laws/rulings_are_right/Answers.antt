use Rattle.hm_race_top.proofs.Ruled.{rulings_are_right}
use Rattle.hm_race_top.proofs.text.conditions.laws.rulings_are_right.Goals as goal

pub returns : goal.returns
returns c = rulings_are_right
