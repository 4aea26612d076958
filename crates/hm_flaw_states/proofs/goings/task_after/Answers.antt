use Rattle.std.proofs.Common.{◌+◌, Option, ap, ◌∙◌, sym, subst}
use Rattle.hm_base.specs.declared.ops.Op.{Op}
use Rattle.hm_flaws.specs.Flawed.{going_by}
use Rattle.hm_history.specs.Kernel.Going.{Going, op_at}
use Rattle.hm_race_states.specs.Tasks.{going_in}
use Rattle.hm_race_states.proofs.Seens.{task_is}
use Rattle.hm_flaw_states.specs.Rooms.{StackStands}
use Rattle.hm_flaw_states.proofs.Standings.{task_stands, task_takes}
use Rattle.hm_flaw_states.proofs.goings.task_after.Goals as goal

pub after-requires : goal.after-requires
after-requires c = task_takes c.args.seen.now.at c.args.script.now c.args.actor (going_in c.args.task.now) c.args.kind.now c.args.seen.now c.requires.room c.facts_of.ensures c.requires.quiet c.requires.stands

pub going_by-requires : goal.going_by-requires
going_by-requires c = subst (λ (g : Going). StackStands (c.args.seen.now.at + 1) g.stack) (sym c.in_ok-moved.ensures)
    (task_stands c.args.seen.now.at c.args.script.now c.args.actor (record { going = going_in c.args.task.now; spare = 1 }) c.args.kind.now c.args.seen.now c.facts_of.ensures c.requires.quiet c.requires.stands)

pub returns : goal.returns
returns c = λ s is.
    let g = going_in c.args.task.now in
    let k = c.args.kind.now in
    c.in_ok-going_by.ensures
    ∙ (ap (λ (o : Option Op). going_by c.args.flaw o c.args.seen.now.at g.stack k (going_in c.in_ok-moved.moved)) c.op-op.ensures
    ∙ ap (going_by c.args.flaw (op_at c.args.script.now c.args.actor g.index) c.args.seen.now.at g.stack k) (c.in_ok-moved.ensures ∙ task_is c.args.script.now s c.args.actor g k c.args.seen.now is))
