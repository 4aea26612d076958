use Rattle.hm_linux.proofs.Searched.{closed_has_all}
use Rattle.hm_linux.proofs.closed_has_all.Goals as goal

pub returns : goal.returns
returns c = closed_has_all
