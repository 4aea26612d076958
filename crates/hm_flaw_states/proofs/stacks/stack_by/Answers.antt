use Rattle.std.proofs.Common.{option_copied, ◌∙◌}
use Rattle.hm_phases.specs.Items.{phases_of}
use Rattle.hm_flaw_states.proofs.Leaving.{steps_by}
use Rattle.hm_flaw_states.proofs.stacks.stack_by.Goals as goal

pub returns-in_default : goal.returns-in_default
returns-in_default c =
    c.without_step.ensures
    ∙ steps_by c.args.flaw (option_copied c.args.op) c.args.at c.args.before.now c.args.kind.now c.args.records.now (phases_of c.args.items) c.in_default.not-BegunLast c.in_default.not-OwnAnyway c.in_default.not-FrozenLate

pub returns-in-OwnAnyway : goal.returns-in-OwnAnyway
returns-in-OwnAnyway c =
    rw c.in-OwnAnyway.is (c.own_set.ensures (option_copied c.args.op) c.args.at c.args.before.now c.args.records.now)

pub returns-in-FrozenLate : goal.returns-in-FrozenLate
returns-in-FrozenLate c =
    rw c.in-FrozenLate.is (c.frozen_late.ensures (option_copied c.args.op) c.args.at c.args.before.now)
