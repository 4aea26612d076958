use Rattle.hm_laws.proofs.Histories.Stands.{allowed_may_stand}
use Rattle.hm_laws.proofs.allowed_may_stand.Goals as goal

pub returns : goal.returns
returns c = allowed_may_stand
