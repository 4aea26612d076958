use Rattle.std.proofs.Common.{◌∙◌}
use Rattle.hm_linux_steps.proofs.OtherLocks.{other_same}
use Rattle.hm_linux_steps.proofs.found.FoundReads.lowest_other.Goals as goal

pub returns : goal.returns
returns g c = c.lowest_other.ensures ∙ other_same c.args.self.now.variant (g.W.Reads.program c.args.self.now.world.now) (g.W.Reads.state c.args.self.now.world.now) c.args.proc c.args.actor
