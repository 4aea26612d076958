use Rattle.hm_race_states.specs.States.{state_in}
use Rattle.hm_race_top.proofs.Ending.{still_goes, all_ended}
use Rattle.hm_race_top.proofs.run.keys.has_ended.Goals as goal

pub returns-then-is_some : goal.returns-then-is_some
returns-then-is_some c = still_goes c.args.script.now (state_in c.args.state.now) c.loop-number.number c.new.result c.count_of-number-end.result c.op.result c.is_some.result c.count_of-number-end.ensures.same c.loop-number-test.true c.new.ensures c.op.ensures c.is_some.ensures c.if-is_some.true

pub returns : goal.returns
returns c = all_ended c.args.script.now (state_in c.args.state.now) c.loop-number.number c.count_of-number-end.result c.count_of-number-end.ensures.same c.loop-number-test.false c.loop-number.invariant
