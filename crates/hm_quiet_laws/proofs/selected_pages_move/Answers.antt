use Rattle.hm_quiet_laws.proofs.OperationsEnd.{selected_move}
use Rattle.hm_quiet_laws.proofs.selected_pages_move.Goals as goal

pub returns : goal.returns
returns c = selected_move
