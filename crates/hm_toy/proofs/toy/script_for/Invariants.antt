use Rattle.std.proofs.Common.{◌≡◌, [], replicate}
use Rattle.hm_toy.proofs.toy.script_for.Given as goal

abbrev pub invariant-loop : goal.invariant-loop
invariant-loop l = l.lists ≡ replicate l.counter []
