use Rattle.std.proofs.Common.{◌+◌, List, option_copied, sym, ◌∙◌, subst}
use Rattle.std.specs.Prelude.{IsTrue, slice_get}
use Rattle.hm_history.specs.declared.phases.Phase.{Phase}
use Rattle.hm_race_states.specs.Tasks.{going_in}
use Rattle.hm_phases.specs.Items.{phases_of}
use Rattle.hm_reads.specs.Ranges.{top_in_range}
use Rattle.hm_flaw_states.specs.Rooms.{StackStands}
use Rattle.hm_flaw_states.proofs.Standing.{ranged_stack, stands_by}
use Rattle.hm_flaw_states.proofs.goings.with_flaw.Goals as goal

pub made-requires : goal.made-requires
made-requires c =
    let g = going_in c.args.task in
    let o = option_copied c.args.op in
    subst (λ (st : List Phase). IsTrue (top_in_range (slice_get st 0))) (sym (c.in_ok-stack.ensures ∙ c.stack_by-items.ensures))
    (ranged_stack (c.args.at + 1) _ (stands_by (c.args.at + 1) c.args.flaw o c.args.at c.args.before.now c.args.kind.now _ (phases_of c.items.result) (subst (StackStands (c.args.at + 1)) (sym c.items.ensures) c.requires)))
