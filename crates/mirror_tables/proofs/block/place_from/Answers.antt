use Rattle.std.proofs.Common.{arith}
use Rattle.mirror_tables.proofs.Places.{key_at, below_more, from_more, below_by, from_by}
use Rattle.mirror_tables.proofs.block.place_from.Goals as goal

pub returns-then-number-page : goal.returns-then-number-page
returns-then-number-page c =
    let k = key_at c.args.entries.now _ c.index-entries-at.result (omega arith) in
    record { within = c.loop-at.invariant.within; below = c.loop-at.invariant.below; from = from_more c.args.entries.now c.args.page _ c.requires.rising (from_by _ _ _ _ k c.number.ensures.same c.if-number-page.true) }

pub loop-at-preserved : goal.loop-at-preserved
loop-at-preserved c =
    let k = key_at c.args.entries.now _ c.index-entries-at.result (omega arith) in
    record { within = omega arith; below = below_more c.args.entries.now c.args.page _ c.requires.rising (omega arith) (below_by _ _ _ _ k c.number.ensures.same c.if-number-page.false) }
