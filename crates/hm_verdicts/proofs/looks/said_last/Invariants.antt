use Rattle.std.proofs.Common.{◌≡◌, ◌==◌, take, reverse, find}
use Rattle.hm_verdicts.proofs.looks.said_last.Given as goal

abbrev pub invariant-loop-x : goal.invariant-loop-x
invariant-loop-x l = l.last ≡ find (λ y. y.0 == l.page) (reverse (take l.x-index l.noted))
