use Rattle.std.proofs.Common.{arith}
use Rattle.std.proofs.lemmas.Grind.{elements}
use Rattle.std.proofs.lemmas.Bool.Decides.{nat_tests}
use Rattle.hm_spaces.specs.Holders.{is_other}
use Rattle.hm_spaces.proofs.Least.{least_found, least_none}
use Rattle.hm_spaces.proofs.map_locks.lowest_other.Goals as goal

pub returns-then-is_on : goal.returns-then-is_on
returns-then-is_on c = rw c.new.ensures (least_found (is_other c.args.locks.now c.args.proc c.args.actor) 16 c.loop-at.at (omega arith) c.loop-at.invariant (grind (arith, nat_tests, elements)))

pub returns : goal.returns
returns c = least_none (is_other c.args.locks.now c.args.proc c.args.actor) 16 (λ k l. c.loop-at.invariant k (omega arith))
