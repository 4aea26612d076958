use Rattle.hm_laws.proofs.Histories.Stands.{rules_kept}
use Rattle.hm_laws.proofs.rules_kept.Goals as goal

pub returns : goal.returns
returns c = rules_kept
