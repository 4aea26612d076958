use Rattle.hm_laws.proofs.Histories.Stands.{history_stands}
use Rattle.hm_laws.proofs.history_stands.Goals as goal

pub returns : goal.returns
returns c = history_stands
