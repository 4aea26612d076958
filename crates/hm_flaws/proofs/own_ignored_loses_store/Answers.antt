use Rattle.hm_flaws.proofs.Computed.{own_ignored_loses_store}
use Rattle.hm_flaws.proofs.own_ignored_loses_store.Goals as goal

pub returns : goal.returns
returns c = own_ignored_loses_store
