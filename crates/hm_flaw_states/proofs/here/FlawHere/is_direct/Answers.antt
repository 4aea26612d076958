use Rattle.std.proofs.Common.{ap, sym, ◌∙◌}
use Rattle.std.specs.Prelude.{is_some}
use Rattle.hm_history.specs.Kernel.Going.{is_direct}
use Rattle.hm_flaw_states.specs.States.{state_in}
use Rattle.hm_flaw_states.proofs.here.FlawHere.is_direct.Goals as goal

pub returns-in-Some : goal.returns-in-Some
returns-in-Some c =
    c.is_some.ensures ∙ (ap is_some c.lowest_direct.ensures ∙ sym (ap (is_direct (state_in c.args.self.now.state.now).after) c.in-Some.is))
