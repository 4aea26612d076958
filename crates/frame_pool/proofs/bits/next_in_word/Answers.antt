use Rattle.std.proofs.Common.{arith}
use Rattle.frame_pool.proofs.Words.{none_high, first_high}
use Rattle.frame_pool.proofs.bits.next_in_word.Goals as goal

pub returns-then-rest-eq0 : goal.returns-then-rest-eq0
returns-then-rest-eq0 c = record { next = none_high c.args.word c.args.from c.requires c.if-rest-eq0.true }

pub returns : goal.returns
returns c = record { next = first_high c.args.word c.args.from c.requires c.if-rest-eq0.false (omega arith) }
