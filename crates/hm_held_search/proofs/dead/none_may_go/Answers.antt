use Rattle.hm_holds.specs.Held.{held_go}
use Rattle.hm_held_search.specs.Keys.{held_form}
use Rattle.hm_held_search.proofs.Waiting.{all_wait, one_goes, one_waits}
use Rattle.hm_held_search.proofs.dead.none_may_go.Goals as goal

pub returns-then-branch : goal.returns-then-branch
returns-then-branch c = let r = c.args.race.now in one_goes (held_go r.flaw r.script (held_form c.args.key.now)) r.script c.loop-number.number c.new.result c.count-number-end.result c.in_ok-may_go.field-0 c.count-number-end.ensures.same c.loop-number-test.true c.new.ensures c.in_ok-may_go.ensures c.if-branch.true

pub loop-number-preserved : goal.loop-number-preserved
loop-number-preserved c = let r = c.args.race.now in one_waits (held_go r.flaw r.script (held_form c.args.key.now)) r.script c.loop-number.number c.new.result c.in_ok-may_go.field-0 c.loop-number.invariant c.new.ensures c.in_ok-may_go.ensures c.if-branch.false

pub returns : goal.returns
returns c = let r = c.args.race.now in all_wait (held_go r.flaw r.script (held_form c.args.key.now)) r.script c.loop-number.number c.count-number-end.result c.count-number-end.ensures.same c.loop-number-test.false c.loop-number.invariant
