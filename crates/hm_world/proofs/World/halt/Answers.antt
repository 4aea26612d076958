use Rattle.hm_world.proofs.Halting.{halts}
use Rattle.hm_world.proofs.World.halt.Goals as goal

pub invariant_of-self : goal.invariant_of-self
invariant_of-self c = halts _ _ c.self.view_is _ c.self.invariant c.args.error c.requires
