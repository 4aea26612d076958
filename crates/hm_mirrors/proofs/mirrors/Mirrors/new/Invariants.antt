use Rattle.std.proofs.Common.{◌≡◌, None, replicate}
use Rattle.hm_mirrors.proofs.mirrors.Mirrors.new.Given as goal

abbrev pub invariant-loop-mirror : goal.invariant-loop-mirror
invariant-loop-mirror l = l.mirrors.items ≡ replicate l._mirror None
