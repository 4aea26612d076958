use Rattle.std.proofs.Common.{sym, ap, ◌∙◌}
use Rattle.hm_history.specs.Memory.Sequences.{sequences_accept}
use Rattle.hm_flaw_states.specs.States.{state_in}
use Rattle.hm_flaw_states.proofs.here.FlawHere.meets_sequences.Goals as goal

pub returns-in-Start : goal.returns-in-Start
returns-in-Start c = c.may_start.ensures ∙ ap (sequences_accept (state_in c.args.self.now.state.now).after.sequences c.args.actor) (sym c.in-Start.is)

pub returns-in-Detaching : goal.returns-in-Detaching
returns-in-Detaching c = c.may_leave.ensures c.args.actor ∙ ap (sequences_accept (state_in c.args.self.now.state.now).after.sequences c.args.actor) (sym c.in-Detaching.is)

pub returns-in-Detached : goal.returns-in-Detached
returns-in-Detached c = c.may_be_out.ensures c.args.actor ∙ ap (sequences_accept (state_in c.args.self.now.state.now).after.sequences c.args.actor) (sym c.in-Detached.is)

pub returns-in-Begin : goal.returns-in-Begin
returns-in-Begin c = c.may_begin.ensures c.args.actor ∙ ap (sequences_accept (state_in c.args.self.now.state.now).after.sequences c.args.actor) (sym c.in-Begin.is)
