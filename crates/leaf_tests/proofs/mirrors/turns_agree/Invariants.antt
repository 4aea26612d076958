use Rattle.std.proofs.Common.{◌≡◌}
use Rattle.leaf_tests.proofs.mirrors.turns_agree.Given as goal

abbrev pub invariant-loop : goal.invariant-loop
invariant-loop l = l.table.window ≡ record { first = 16; count = 1024 }
