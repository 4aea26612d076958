use Rattle.hm_linux.proofs.Others.{others_are_few}
use Rattle.hm_linux.proofs.others_are_few.Goals as goal

pub returns : goal.returns
returns c = others_are_few
