use Rattle.hm_why.specs.Follows.{Follows}
use Rattle.hm_why.proofs.one_load.follow.Given as goal

abbrev pub invariant-loop-at : goal.invariant-loop-at
invariant-loop-at l = Follows l.writers l.entries l.at
