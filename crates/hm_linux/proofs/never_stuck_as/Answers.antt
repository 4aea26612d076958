use Rattle.hm_linux.proofs.Goes.{never_stuck_as}
use Rattle.hm_linux.proofs.never_stuck_as.Goals as goal

pub returns : goal.returns
returns c = never_stuck_as
