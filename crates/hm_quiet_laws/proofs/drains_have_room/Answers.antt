use Rattle.hm_quiet_laws.proofs.OperationsEnd.{drains_have_room}
use Rattle.hm_quiet_laws.proofs.drains_have_room.Goals as goal

pub returns : goal.returns
returns c = drains_have_room
