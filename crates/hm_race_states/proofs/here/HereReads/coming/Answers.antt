use Rattle.std.proofs.Common.{[], refl, sym, ap, ◌∙◌}
use Rattle.hm_history.specs.Kernel.Going.{come_to, concerns, steps_from}
use Rattle.hm_actors.proofs.Comings.{come_by_shown, come_nowhere}
use Rattle.hm_race_states.specs.States.{state_in, going_at}
use Rattle.hm_race_states.proofs.here.HereReads.coming.Goals as goal

pub returns-in-Some : goal.returns-in-Some
returns-in-Some c =
    let s = (state_in c.args.self.now.state.now).after in
    c.come_to.ensures ∙ come_by_shown s c.args.op.now (concerns s c.args.op.now) (λ step x. refl) c.in-Some.task.now.records (steps_from c.args.step) c.args.next
    ∙ ap (λ o. come_to s c.args.op.now (going_at o).pages (steps_from c.args.step) c.args.next) c.in-Some.ensures

pub returns-in-None : goal.returns-in-None
returns-in-None c =
    let s = (state_in c.args.self.now.state.now).after in
    sym (ap (λ o. come_to s c.args.op.now (going_at o).pages (steps_from c.args.step) c.args.next) (sym c.in-None.ensures)
    ∙ sym (come_by_shown s c.args.op.now (concerns s c.args.op.now) (λ step x. refl) [] (steps_from c.args.step) c.args.next)
    ∙ come_nowhere (concerns s c.args.op.now) (steps_from c.args.step) c.args.next)
