use Rattle.hm_flaw_states.proofs.Stays.{has_begun}
use Rattle.hm_flaw_states.proofs.steps.begins.begun_late.Goals as goal

pub returns-then-since-gt0 : goal.returns-then-since-gt0
returns-then-since-gt0 g c = has_begun (g.W.Reads.state c.args.found.now).after c.args.op.now c.args.since c.args.right c.if-since-gt0.true
