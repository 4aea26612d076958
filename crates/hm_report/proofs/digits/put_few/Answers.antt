use Rattle.std.proofs.Common.{append_assoc, arith, refl}
use Rattle.hm_report.proofs.Numbers.{decimal_pair, length_pair}
use Rattle.hm_report.proofs.digits.put_few.Goals as goal

pub put_short-end-requires-clause-room : goal.put_short-end-requires-clause-room
put_short-end-requires-clause-room c =
    omega (arith, c.requires.room, length_pair c.args.number c.if-number-ge100.true (omega (arith, c.requires.few)))

pub put_pair-requires-clause-room : goal.put_pair-requires-clause-room
put_pair-requires-clause-room c =
    omega (arith, c.requires.room, c.put_short-end.ensures.end, c.put_short-end.ensures.len, length_pair c.args.number c.if-number-ge100.true (omega (arith, c.requires.few)))

pub returns-then-number-ge100-clause-text : goal.returns-then-number-ge100-clause-text
returns-then-number-ge100-clause-text c =
    rw (c.put_pair.ensures.text, c.put_short-end.ensures.text, append_assoc, decimal_pair c.args.number c.if-number-ge100.true (omega (arith, c.requires.few))) refl

pub returns-then-number-ge100-clause-end : goal.returns-then-number-ge100-clause-end
returns-then-number-ge100-clause-end c =
    omega (arith, c.put_pair.ensures.end, c.put_short-end.ensures.end, length_pair c.args.number c.if-number-ge100.true (omega (arith, c.requires.few)))
