use Rattle.std.proofs.Common.{ap, ◌∙◌}
use Rattle.hm_history.specs.declared.phases.Next.TheVariants.{Do}
use Rattle.hm_flaw_states.proofs.Taking.{none_held}
use Rattle.hm_flaw_states.proofs.steps.removals.emptied_first.Goals as goal

pub returns-in-None : goal.returns-in-None
returns-in-None g c = ap Do (c.removed.ensures c.args.emptied) ∙ none_held (g.W.Reads.program c.args.found.now) (g.W.Reads.state c.args.found.now).after c.args.actor c.args.dev c.args.next c.args.emptied c.in-None.ensures
