use Rattle.hm_quiet_laws.proofs.drains.FromStart.{drain_alone}
use Rattle.hm_quiet_laws.proofs.drain_alone_has_room.Goals as goal

pub returns : goal.returns
returns c = drain_alone
