use Rattle.std.proofs.Common.{arith}
use Rattle.std.proofs.lemmas.Grind.{elements}
use Rattle.hm_spaces.specs.Holders.{is_writer}
use Rattle.hm_spaces.proofs.Least.{least_found, least_none}
use Rattle.hm_spaces.proofs.map_locks.writer.Goals as goal

pub returns-then-writes : goal.returns-then-writes
returns-then-writes c = rw c.new.ensures (least_found (is_writer c.args.locks.now c.args.proc) 16 c.loop-at.at (omega arith) c.loop-at.invariant (grind (arith, elements)))

pub returns : goal.returns
returns c = least_none (is_writer c.args.locks.now c.args.proc) 16 (λ k l. c.loop-at.invariant k (omega arith))
