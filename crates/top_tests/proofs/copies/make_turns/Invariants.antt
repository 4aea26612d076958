use Rattle.std.proofs.Common.{◌≡◌}
use Rattle.top_tests.proofs.copies.make_turns.Given as goal

-- the pass is still one of these turns, with all its shares
abbrev pub invariant-loop : goal.invariant-loop
invariant-loop g l = (l.pass.desk ≡ l.turns) × (l.pass.shares ≡ l.fn.pass.shares)
