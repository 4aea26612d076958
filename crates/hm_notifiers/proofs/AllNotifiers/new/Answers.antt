use Rattle.std.proofs.Common.{None, List, length, replicate, ap, ◌∙◌}
use Rattle.notifier_seq.specs.Sequences as one
use Rattle.hm_notifiers.specs.NotifiersValue.{NotifiersValue}
use Rattle.hm_notifiers.proofs.Start.{length-all_start}
use Rattle.hm_notifiers.proofs.AllNotifiers.new.Goals as goal

pub invariant_of-result : goal.invariant_of-result
invariant_of-result c = ap length c.in_ok-of_process.ensures ∙ length-all_start

pub returns : goal.returns
returns c = ap (λ (xs : List one.Sequences). let x : NotifiersValue = record { of_process = xs; procs = replicate 32 None } in x) c.in_ok-of_process.ensures
