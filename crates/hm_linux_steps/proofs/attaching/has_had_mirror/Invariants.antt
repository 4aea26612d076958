use Rattle.std.proofs.Common.{◌≡◌, ℕ, ◌<◌, ◌==◌, false}
use Rattle.hm_history.specs.Memory.Plain.{mirror_passes}
use Rattle.hm_linux_steps.proofs.attaching.has_had_mirror.Given as goal

abbrev pub invariant-loop-number : goal.invariant-loop-number
invariant-loop-number g l = (k : ℕ) → k < l.number → mirror_passes (λ x. x.proc == l.proc) ((g.W.Reads.state l.found).after.plain.mirrors k) ≡ false
