use Rattle.std.proofs.Common.{ap, ◌∙◌}
use Rattle.hm_actors.specs.Migrations.{kept_at, task_shown}
use Rattle.hm_actors.proofs.TaskKept.{ends, goes_on, is_empty}
use Rattle.hm_actors.proofs.tasks.Task.step_op.Goals as goal

pub begin-requires : goal.begin-requires
begin-requires c = is_empty c.moved.new.self c.if-is_over.ensures

pub returns-then-is_over-clause-next : goal.returns-then-is_over-clause-next
returns-then-is_over-clause-next c = ap (task_shown c.end.new.migrations) c.begin.ensures
    ∙ ends c.args.script.now c.args.actor c.args.self.now.index c.args.self.now.stack c.moved.new.self (kept_at c.args.migrations.now c.args.self.now.migration) c.args.op.now c.in-Some.top.now c.args.kind.now c.args.seen.now
    c.in-Some.ensures c.moved.ensures c.if-is_over.ensures

pub returns-else-is_over-clause-next : goal.returns-else-is_over-clause-next
returns-else-is_over-clause-next c = goes_on c.args.script.now c.args.actor c.args.self.now.index c.args.self.now.stack c.moved.new.self (kept_at c.args.migrations.now c.args.self.now.migration) (kept_at c.step.new.migrations c.args.self.now.migration) c.args.op.now c.in-Some.top.now c.args.kind.now c.args.seen.now
    c.in-Some.ensures c.step.ensures.records c.moved.ensures c.if-is_over.ensures
