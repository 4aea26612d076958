use Rattle.hm_quiet_laws.proofs.OperationsEnd.{quiet_moves}
use Rattle.hm_quiet_laws.proofs.quiet_moves.Goals as goal

pub returns : goal.returns
returns c = quiet_moves
