use Rattle.hm_race_top.proofs.Listed.{all_is_listed}
use Rattle.hm_race_top.proofs.laws.all_is_listed.Goals as goal

pub returns : goal.returns
returns c = all_is_listed
