use Rattle.hm_holds.specs.Held.{is_dead}
use Rattle.hm_held_search.proofs.DeadEnds.{none_more}
use Rattle.hm_held_search.proofs.dead.first_dead.Goals as goal

pub loop-at-preserved : goal.loop-at-preserved
loop-at-preserved c =
    let r = c.args.race.now in
    none_more (is_dead r.flaw r.script) c.args.known.now c.loop-at.at c.index-known-at.result c.loop-at-test.true c.in_ok-is_reached.field-0 c.in_ok-is_reached.ensures c.if-branch.false c.loop-at.invariant
