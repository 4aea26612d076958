use Rattle.hm_linux.proofs.Absent.{none_is_due}
use Rattle.hm_linux.proofs.none_is_due.Goals as goal

pub returns : goal.returns
returns c = none_is_due
