use Rattle.hm_race_top.proofs.Absent.{strict_is_right}
use Rattle.hm_race_top.proofs.text.conditions.laws.strict_is_right.Goals as goal

pub returns : goal.returns
returns c = strict_is_right
