use Rattle.std.proofs.Common.{option_copied, ◌∙◌}
use Rattle.hm_phases.specs.Items.{phases_of}
use Rattle.hm_flaw_states.proofs.Leaving.{led_top}
use Rattle.hm_flaw_states.proofs.stacks.led_on.Goals as goal

pub returns-in-Some : goal.returns-in-Some
returns-in-Some c = c.led_from.ensures ∙ led_top (option_copied c.args.op) c.args.at c.in-Some.top.now c.args.before.now c.args.kind.now (phases_of c.args.items) c.in-Some.ensures
