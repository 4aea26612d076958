use Rattle.std.proofs.Common.{arith}
use Rattle.mirror_tables.proofs.Places.{key_at, below_more, from_more, below_by, from_by}
use Rattle.mirror_tables.proofs.block.place.Goals as goal

pub loop-low-preserved-then-number-page : goal.loop-low-preserved-then-number-page
loop-low-preserved-then-number-page c =
    let k = key_at c.args.entries.now _ c.index-entries-middle.result (omega arith) in
    record { order = omega arith; within = c.loop-low.invariant.within; below = below_more c.args.entries.now c.args.page _ c.requires (omega arith) (below_by _ _ _ _ k c.number.ensures.same c.if-number-page.true); from = c.loop-low.invariant.from }

pub loop-low-preserved : goal.loop-low-preserved
loop-low-preserved c =
    let k = key_at c.args.entries.now _ c.index-entries-middle.result (omega arith) in
    record { order = omega arith; within = omega arith; below = c.loop-low.invariant.below; from = from_more c.args.entries.now c.args.page _ c.requires (from_by _ _ _ _ k c.number.ensures.same c.if-number-page.false) }
