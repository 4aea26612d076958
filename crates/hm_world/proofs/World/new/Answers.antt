use Rattle.hm_world.proofs.Beginning.{begins}
use Rattle.hm_world.proofs.World.new.Goals as goal

pub invariant_of-result : goal.invariant_of-result
invariant_of-result c = begins c.args.script _ _ c.facts.ensures c.new.ensures.entries c.in_ok-new.ensures c.in_ok-new-2.ensures c.in_ok-new-3.ensures c.in_ok-new-4.ensures c.in_ok-new-5.ensures c.in_ok-new-6.ensures
