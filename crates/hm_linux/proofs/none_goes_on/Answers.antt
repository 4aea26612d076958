use Rattle.hm_linux.proofs.Absent.{none_goes_on}
use Rattle.hm_linux.proofs.none_goes_on.Goals as goal

pub returns : goal.returns
returns c = none_goes_on
