use Rattle.hm_underway_laws.proofs.Invalidating.{newcomer_stays_empty}
use Rattle.hm_underway_laws.proofs.newcomer_stays_empty.Goals as goal

pub returns : goal.returns
returns c = newcomer_stays_empty
