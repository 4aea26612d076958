use Rattle.hm_race_laws.proofs.Whole.{raced_is_due}
use Rattle.hm_race_laws.proofs.raced_is_due.Goals as goal

pub returns : goal.returns
returns c = raced_is_due
