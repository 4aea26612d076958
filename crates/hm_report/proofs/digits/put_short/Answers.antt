use Rattle.std.proofs.Common.{arith, refl}
use Rattle.hm_report.proofs.Numbers.{decimal_one, decimal_two, length_one, length_two}
use Rattle.hm_report.proofs.digits.put_short.Goals as goal

pub put_pair-requires-clause-room : goal.put_pair-requires-clause-room
put_pair-requires-clause-room c =
    omega (arith, c.requires.room, length_two c.args.number c.if-number-ge10.true c.requires.few)

pub put_at-requires : goal.put_at-requires
put_at-requires c =
    omega (arith, c.requires.room, length_one c.args.number (omega (arith, c.if-number-ge10.false)))

pub returns-then-number-ge10-clause-text : goal.returns-then-number-ge10-clause-text
returns-then-number-ge10-clause-text c =
    rw (c.put_pair.ensures.text, decimal_two c.args.number c.if-number-ge10.true c.requires.few) refl

pub returns-then-number-ge10-clause-end : goal.returns-then-number-ge10-clause-end
returns-then-number-ge10-clause-end c =
    omega (arith, c.put_pair.ensures.end, length_two c.args.number c.if-number-ge10.true c.requires.few)

pub returns-else-number-ge10-clause-text : goal.returns-else-number-ge10-clause-text
returns-else-number-ge10-clause-text c =
    rw (c.put_at.ensures.end, c.put_at.ensures.text, decimal_one c.args.number (omega (arith, c.if-number-ge10.false))) refl

pub returns-else-number-ge10-clause-end : goal.returns-else-number-ge10-clause-end
returns-else-number-ge10-clause-end c =
    omega (arith, c.put_at.ensures.end, length_one c.args.number (omega (arith, c.if-number-ge10.false)))
