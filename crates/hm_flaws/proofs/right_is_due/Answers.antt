use Rattle.hm_flaws.proofs.Computed.{right_is_due}
use Rattle.hm_flaws.proofs.right_is_due.Goals as goal

pub returns : goal.returns
returns c = right_is_due
