use Rattle.hm_flaw_states.specs.Keyed.{form_in}
use Rattle.hm_flaw_search.proofs.Waiting.{all_wait, one_goes, one_waits}
use Rattle.hm_flaw_search.proofs.race.FlawRace.none_can_go.Goals as goal

pub returns-then-branch : goal.returns-then-branch
returns-then-branch c = one_goes c.args.self.now.flaw c.args.self.now.script (form_in c.args.key.now).flawed c.loop-number.number c.new.result c.count-number-end.result c.in_ok-can_go.field-0 c.count-number-end.ensures.same c.loop-number-test.true c.new.ensures c.in_ok-can_go.ensures c.if-branch.true

pub loop-number-preserved : goal.loop-number-preserved
loop-number-preserved c = one_waits c.args.self.now.flaw c.args.self.now.script (form_in c.args.key.now).flawed c.loop-number.number c.new.result c.in_ok-can_go.field-0 c.loop-number.invariant c.new.ensures c.in_ok-can_go.ensures c.if-branch.false

pub returns : goal.returns
returns c = all_wait c.args.self.now.flaw c.args.self.now.script (form_in c.args.key.now).flawed c.loop-number.number c.count-number-end.result c.count-number-end.ensures.same c.loop-number-test.false c.loop-number.invariant
