use Rattle.std.proofs.Common.{ap, ◌∙◌}
use Rattle.hm_history.specs.Kernel.Stacks.{stack_after}
use Rattle.hm_actors.specs.Actors.{TaskValue}
use Rattle.hm_actors.proofs.TaskKept.{ends}
use Rattle.hm_race_states.proofs.tasks.RaceTask.after_top.Goals as goal

pub returns-then-is_over : goal.returns-then-is_over
returns-then-is_over c = c.in_ok-at.ensures
    ∙ ap (λ (d : TaskValue). d.going) (ends c.args.script.now c.args.actor c.args.self.now.index c.args.self.now.stack c.moved.new.self (record { items = c.args.self.now.records; spare = 1 }) c.args.op.now c.in-Some.top.now c.args.kind.now c.args.seen.now
    c.in-Some.ensures (c.moved.ensures ∙ ap (λ st. stack_after c.args.op.now st c.args.kind.now c.args.seen.now) (c.of-stack.ensures ∙ c.items.ensures)) c.if-is_over.ensures)
