use Rattle.std.proofs.Common.{append_assoc, arith, refl}
use Rattle.hm_report.proofs.Numbers.{decimal_four, length_four}
use Rattle.hm_report.proofs.digits.put_many.Goals as goal

pub put_few-front-requires-clause-room : goal.put_few-front-requires-clause-room
put_few-front-requires-clause-room c =
    omega (arith, c.requires, length_four c.args.number (omega (arith, c.if-number-lt10000.false)) (omega (arith, c.ranges.number)))

pub put_pair-end-requires-clause-room : goal.put_pair-end-requires-clause-room
put_pair-end-requires-clause-room c =
    omega (arith, c.requires, c.put_few-front.ensures.end, c.put_few-front.ensures.len, length_four c.args.number (omega (arith, c.if-number-lt10000.false)) (omega (arith, c.ranges.number)))

pub put_pair-requires-clause-room : goal.put_pair-requires-clause-room
put_pair-requires-clause-room c =
    omega (arith, c.requires, c.put_pair-end.ensures.end, c.put_pair-end.ensures.len, c.put_few-front.ensures.end, c.put_few-front.ensures.len, length_four c.args.number (omega (arith, c.if-number-lt10000.false)) (omega (arith, c.ranges.number)))

pub returns-then-number-lt100000000-clause-text : goal.returns-then-number-lt100000000-clause-text
returns-then-number-lt100000000-clause-text c =
    rw (c.put_pair.ensures.text, c.put_pair-end.ensures.text, c.put_few-front.ensures.text, append_assoc, append_assoc, decimal_four c.args.number (omega (arith, c.if-number-lt10000.false)) (omega (arith, c.ranges.number))) refl

pub returns-then-number-lt100000000-clause-end : goal.returns-then-number-lt100000000-clause-end
returns-then-number-lt100000000-clause-end c =
    omega (arith, c.put_pair.ensures.end, c.put_pair-end.ensures.end, c.put_few-front.ensures.end, length_four c.args.number (omega (arith, c.if-number-lt10000.false)) (omega (arith, c.ranges.number)))
