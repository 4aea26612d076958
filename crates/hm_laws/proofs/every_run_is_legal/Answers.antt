use Rattle.hm_laws.proofs.Histories.Stands.{run_is_legal}
use Rattle.hm_laws.proofs.every_run_is_legal.Goals as goal

pub returns : goal.returns
returns c = run_is_legal
