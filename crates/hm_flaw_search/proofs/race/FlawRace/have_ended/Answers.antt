use Rattle.std.proofs.Common.{ap, ◌∙◌}
use Rattle.hm_history.specs.Kernel.Going.{op_at}
use Rattle.hm_flaw_states.specs.States.{state_in}
use Rattle.hm_flaw_states.specs.declared.state.FlawState.{FlawState}
use Rattle.hm_race_top.proofs.Ending.{still_goes, all_ended}
use Rattle.hm_flaw_search.specs.Races.{FlawRaceValue}
use Rattle.hm_flaw_search.proofs.race.FlawRace.have_ended.Goals as goal

pub returns-then-is_some : goal.returns-then-is_some
returns-then-is_some c =
    let u = state_in c.args.key.now.state.value in
    still_goes c.args.self.now.script u c.loop-number.number c.new.result c.count-number-end.result c.op.result c.is_some.result c.count-number-end.ensures.same c.loop-number-test.true c.new.ensures
    (c.op.ensures ∙ (ap (λ (x : FlawState). op_at c.self.inside.script.now c.new.result ((state_in x).going c.new.result).index) c.deref.ensures ∙ ap (λ (v : FlawRaceValue). op_at v.script c.new.result (u.going c.new.result).index) c.self.view_is))
    c.is_some.ensures c.if-is_some.true

pub returns : goal.returns
returns c = all_ended c.args.self.now.script (state_in c.args.key.now.state.value) c.loop-number.number c.count-number-end.result c.count-number-end.ensures.same c.loop-number-test.false c.loop-number.invariant
