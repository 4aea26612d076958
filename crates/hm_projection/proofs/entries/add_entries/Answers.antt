use Rattle.hm_projection.proofs.Going.{goes_on, is_due, starts}
use Rattle.hm_projection.proofs.entries.add_entries.Goals as goal

pub loop-at-init : goal.loop-at-init
loop-at-init c =
    starts c.args.world.now.script c.args.entries.now c.args.events.now.items c.args.world.now c.in_ok-driver.driver c.requires.start c.in_ok-driver.ensures

pub add_entry-requires-clause-due : goal.add_entry-requires-clause-due
add_entry-requires-clause-due c =
    is_due c.args.world.now.script c.args.entries.now c.loop-at.at c.args.events.now.items c.loop-at.events.items c.loop-at.world c.loop-at.driver
    c.index-entries-at.result c.loop-at.invariant c.loop-at-test.true c.index-entries-at.is c.requires.dues

pub loop-at-preserved : goal.loop-at-preserved
loop-at-preserved c =
    goes_on c.args.world.now.script c.args.entries.now c.loop-at.at c.args.events.now.items c.loop-at.events.items c.add_entry.new.events.items
    c.loop-at.world c.add_entry.new.world c.loop-at.driver c.add_entry.new.driver c.index-entries-at.result c.loop-at.invariant c.loop-at-test.true
    c.index-entries-at.is c.in_ok-add_entry.ensures.grown c.in_ok-add_entry.ensures.driver c.in_ok-add_entry.ensures.events
