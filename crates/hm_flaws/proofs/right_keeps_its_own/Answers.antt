use Rattle.hm_flaws.proofs.Owned.{right_keeps_its_own}
use Rattle.hm_flaws.proofs.right_keeps_its_own.Goals as goal

pub returns : goal.returns
returns c = right_keeps_its_own
