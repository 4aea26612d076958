use Rattle.hm_linux.proofs.Ended.{none_has_all}
use Rattle.hm_linux.proofs.none_has_all.Goals as goal

pub returns : goal.returns
returns c = none_has_all
