use Rattle.hm_underway_laws.proofs.Busy.{busy_goes_on}
use Rattle.hm_underway_laws.proofs.busy_goes_on.Goals as goal

pub returns : goal.returns
returns c = busy_goes_on
