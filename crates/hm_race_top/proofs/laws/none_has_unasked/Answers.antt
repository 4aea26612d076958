use Rattle.hm_race_top.proofs.Unasked.{none_has}
use Rattle.hm_race_top.proofs.laws.none_has_unasked.Goals as goal

pub returns : goal.returns
returns c = none_has
