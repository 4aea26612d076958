use Rattle.std.proofs.Common.{◌<◌, length, arith}
use Rattle.hm_view.proofs.Going.{is_due, goes_on}
use Rattle.hm_view.proofs.rows.add_rows.Goals as goal

pub add_row-requires-clause-due : goal.add_row-requires-clause-due
add_row-requires-clause-due c =
    let below : c.loop-at.at < length c.args.entries.now = omega (arith, c.loop-at-test.true, c.loop-at.auto.at-end, c.requires.within) in
    is_due c.args.world.now.script c.args.entries.now c.args.from c.loop-at.at c.args.text.now c.loop-at.text c.loop-at.world
    c.index-entries-at.result c.loop-at.invariant below c.index-entries-at.is c.requires.dues

pub loop-at-preserved : goal.loop-at-preserved
loop-at-preserved c =
    let below : c.loop-at.at < length c.args.entries.now = omega (arith, c.loop-at-test.true, c.loop-at.auto.at-end, c.requires.within) in
    goes_on c.args.world.now.script c.args.entries.now c.args.from c.loop-at.at c.args.text.now c.loop-at.text c.add_row.new.text
    c.loop-at.world c.add_row.new.world c.index-entries-at.result c.loop-at.invariant below c.index-entries-at.is
    c.in_ok-add_row.ensures.grown c.in_ok-add_row.ensures.text
