use Rattle.std.proofs.Common.{rules}
use Rattle.hm_world.proofs.Pages.{no_page}
use Rattle.hm_world.proofs.World.place_at.Goals as goal

pub returns-else-addr : goal.returns-else-addr
returns-else-addr c = no_page _ _ c.self.view_is _ c.self.invariant c.args.proc c.args.addr (search rules)
