use Rattle.hm_laws.proofs.Histories.Stands.{history_is_legal}
use Rattle.hm_laws.proofs.every_history_is_legal.Goals as goal

pub returns : goal.returns
returns c = history_is_legal
