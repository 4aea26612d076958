use Rattle.hm_quiet_laws.proofs.OperationsEnd.{quiet_ends}
use Rattle.hm_quiet_laws.proofs.quiet_operations_end.Goals as goal

pub returns : goal.returns
returns c = quiet_ends
