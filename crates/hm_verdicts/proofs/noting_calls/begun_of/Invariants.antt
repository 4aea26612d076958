use Rattle.std.proofs.Common.{◌≡◌, ◌==◌, ◌&&◌, option_map, take, reverse, find}
use Rattle.hm_verdicts.proofs.noting_calls.begun_of.Given as goal

abbrev pub invariant-loop-one : goal.invariant-loop-one
invariant-loop-one l = l.last ≡ option_map (λ y. y.at) (find (λ y. (y.proc == l.proc)
    && ((y.span.first == l.span.first) && (y.span.count == l.span.count))) (reverse (take l.one-index l.under)))
