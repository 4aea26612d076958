use Rattle.std.proofs.Common.{arith}
use Rattle.hm_flaw_states.proofs.Mirrors.{same_in, sets_same}
use Rattle.hm_flaw_states.proofs.guards.same_mirrors.Goals as goal

pub returns-clause-yes : goal.returns-clause-yes
returns-clause-yes c e = same_in c.args.one.now c.args.other.now (c.same_set.ensures.yes e)

pub returns-clause-no : goal.returns-clause-no
returns-clause-no c e = c.same_set.ensures.no (sets_same c.args.one.now c.args.other.now (omega arith) (omega arith) e)
