use Rattle.hm_flaws.proofs.Computed.{uncompared_is_stale}
use Rattle.hm_flaws.proofs.uncompared_is_stale.Goals as goal

pub returns : goal.returns
returns c = uncompared_is_stale
