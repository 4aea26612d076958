use Rattle.std.proofs.Common.{◌≡◌, replicate, ap, ◌∙◌, arith}
use Rattle.notifier_seq.specs.Sequences as one
use Rattle.hm_notifiers.specs.NotifiersValue.{all_start}
use Rattle.hm_notifiers.proofs.all_notifiers.Goals as goal

pub returns : goal.returns
unfolding all_start
returns c = let all : c.loop-process._process ≡ 32 = omega arith in c.loop-process.invariant ∙ ap (λ n. replicate n one.sequences_start) all
