use Rattle.hm_underway_laws.proofs.Invalidating.{deferred_stays_empty}
use Rattle.hm_underway_laws.proofs.deferred_stays_empty.Goals as goal

pub returns : goal.returns
returns c = deferred_stays_empty
