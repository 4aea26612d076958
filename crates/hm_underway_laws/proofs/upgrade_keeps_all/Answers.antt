use Rattle.hm_underway_laws.proofs.Upgraded.{same_run, same_legal}
use Rattle.hm_underway_laws.proofs.upgrade_keeps_all.Goals as goal

pub returns-clause-run : goal.returns-clause-run
returns-clause-run c = same_run

pub returns-clause-legal : goal.returns-clause-legal
returns-clause-legal c = same_legal
