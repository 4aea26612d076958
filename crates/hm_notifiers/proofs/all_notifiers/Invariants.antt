use Rattle.std.proofs.Common.{◌≡◌, replicate}
use Rattle.notifier_seq.specs.Sequences as one
use Rattle.hm_notifiers.proofs.all_notifiers.Given as goal

abbrev pub invariant-loop-process : goal.invariant-loop-process
invariant-loop-process l = l.all.items ≡ replicate l._process one.sequences_start
