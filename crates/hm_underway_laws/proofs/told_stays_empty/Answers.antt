use Rattle.hm_underway_laws.proofs.Invalidating.{told_stays_empty}
use Rattle.hm_underway_laws.proofs.told_stays_empty.Goals as goal

pub returns : goal.returns
returns c = told_stays_empty
