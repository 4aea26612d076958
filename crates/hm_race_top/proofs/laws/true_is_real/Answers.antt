use Rattle.hm_race_top.proofs.Listed.{true_is_real}
use Rattle.hm_race_top.proofs.laws.true_is_real.Goals as goal

pub returns : goal.returns
returns c = true_is_real c.same_end.ensures
