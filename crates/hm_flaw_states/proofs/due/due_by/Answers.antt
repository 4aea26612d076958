use Rattle.std.proofs.Common.{◌≡◌, IfOk, subst}
use Rattle.hm_history.specs.declared.Progress.{Progress}
use Rattle.hm_flaw_states.specs.Owns.{driver_in}
use Rattle.hm_flaw_states.proofs.Finding.{due_there}
use Rattle.hm_flaw_states.proofs.due.due_by.Goals as goal

pub returns-in_default : goal.returns-in_default
returns-in_default g c = subst (λ (z : Progress). IfOk c.due_found.result (λ (p : Progress). p ≡ z))
    (due_there c.args.flaw (g.W.Reads.program c.args.world.now) (record { state = g.W.Reads.state c.args.world.now; driver = driver_in c.args.own.now }) c.args.actor c.in_default.not-NoFlaw)
    c.due_found.ensures
