use Rattle.hm_world.proofs.Noting.{op_ranged}
use Rattle.hm_world.proofs.World.decided_place.Goals as goal

pub touch_page-requires : goal.touch_page-requires
touch_page-requires c = op_ranged _ _ c.self.view_is _ c.self.invariant c.args.actor c.in-Some.op.now c.in-Some.ensures
