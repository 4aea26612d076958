use Rattle.std.proofs.Common.{refl, ◌∙◌}
use Rattle.hm_history.specs.Kernel.Going.{concerns, steps_from}
use Rattle.hm_actors.proofs.Comings.{come_by_shown}
use Rattle.hm_flaw_states.specs.States.{state_in}
use Rattle.hm_flaw_states.proofs.here.FlawHereReads.coming.Goals as goal

pub returns : goal.returns
returns c =
    let u = state_in c.args.self.now.state.now in
    c.coming_by.ensures
    ∙ come_by_shown u.after c.args.op.now (concerns u.after c.args.op.now) (λ step x. refl) (u.going c.args.actor).pages (steps_from c.args.step) c.args.next
