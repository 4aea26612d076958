use Rattle.std.proofs.Common.{ap, ◌∙◌, List, ◌++◌, ◌∷◌, []}
use Rattle.hm_base.specs.declared.ops.Op.{Op}
use Rattle.hm_base.specs.declared.ops.ScheduleLine.TheVariants.{Run}
use Rattle.hm_script.proofs.Trials.{trial}
use Rattle.hm_script.proofs.generator.generate.Goals as goal

pub invariant_of-result : goal.invariant_of-result
invariant_of-result c =
    trial c.args.number _ _ _ _ _ _ _ _ _ c.in_ok-two_devices.ensures c.in_ok-first.ensures c.in_ok-add_ops.ensures
    (c.in_ok-push.ensures.ok ∙ ap (λ (ls : List (List Op)). ls ++ c.add_ops.new.ops ∷ []) c.new-actors.ensures)
    c.in_ok-add_actors.ensures
    (c.in_ok-push-2.ensures.ok ∙ (λ i. c.new-schedule.ensures i ++ Run (c.new.ensures i) 40 ∷ []))
    c.in_ok-add_lines.ensures
