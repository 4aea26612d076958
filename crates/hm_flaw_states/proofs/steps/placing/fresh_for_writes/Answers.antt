use Rattle.std.proofs.Common.{◌∙◌}
use Rattle.hm_flaw_states.proofs.Stays as stays
use Rattle.hm_flaw_states.proofs.steps.placing.fresh_for_writes.Goals as goal

pub returns-in_default : goal.returns-in_default
returns-in_default g c = c.requires ∙ stays.fresh_for_writes (g.W.Reads.program c.args.found.now) (g.W.Reads.state c.args.found.now).after c.args.actor c.args.op.now ((g.W.Reads.state c.args.found.now).going c.args.actor).pages c.args.top.now c.in_default.not-Guard
