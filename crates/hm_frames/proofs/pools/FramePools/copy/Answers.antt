use Rattle.std.proofs.Common.{arith}
use Rattle.hm_frames.proofs.Copies.{copied_up, copied_down}
use Rattle.hm_frames.proofs.pools.FramePools.copy.Goals as goal

pub returns-then-source-target-2 : goal.returns-then-source-target-2
returns-then-source-target-2 c = copied_up _ _ _ c.self.view_is _ _ c.split_at_mut-low.ensures.value c.args.from c.args.to c.args.piece _ _ _ _ _
    c.pool_index-source.ensures.same c.pool_index-target.ensures.same c.split_at_mut-low.ensures.front_len c.if-source-target-2.true (omega arith) c.copy_from.ensures

pub returns-else-source-target-2 : goal.returns-else-source-target-2
returns-else-source-target-2 c = copied_down _ _ _ c.self.view_is _ _ c.split_at_mut-low-else-source-target-2.ensures.value c.args.from c.args.to c.args.piece _ _ _ _ _
    c.pool_index-source.ensures.same c.pool_index-target.ensures.same c.split_at_mut-low-else-source-target-2.ensures.front_len (omega arith) (omega arith) c.copy_from-else-source-target-2.ensures
