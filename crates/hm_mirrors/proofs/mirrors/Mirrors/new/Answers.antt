use Rattle.std.proofs.Common.{◌≡◌, None, length, replicate, ap, ◌∙◌, arith}
use Rattle.hm_mirrors.proofs.mirrors.Mirrors.new.Goals as goal

pub invariant_of-result : goal.invariant_of-result
invariant_of-result c = let all : c.loop-mirror._mirror ≡ 32 = omega arith in ap length (c.loop-mirror.invariant ∙ ap (λ n. replicate n None) all)

pub returns : goal.returns
returns c = let all : c.loop-mirror._mirror ≡ 32 = omega arith in c.loop-mirror.invariant ∙ ap (λ n. replicate n None) all
