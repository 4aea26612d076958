use Rattle.std.proofs.Common.{append_assoc, arith, refl}
use Rattle.hm_report.proofs.Numbers.{decimal_pair, length_pair}
use Rattle.hm_report.proofs.digits.+put_long.Goals as goal

pub put_long-end-requires : goal.put_long-end-requires
put_long-end-requires t c =
    omega (arith, c.requires, length_pair c.args.number c.if-number-ge100.true (omega (arith, c.ranges.number)))

pub put_pair-requires-clause-room : goal.put_pair-requires-clause-room
put_pair-requires-clause-room t c =
    omega (arith, c.requires, c.put_long-end.ensures.end, c.put_long-end.ensures.len, length_pair c.args.number c.if-number-ge100.true (omega (arith, c.ranges.number)))

pub returns-then-number-ge100-clause-text : goal.returns-then-number-ge100-clause-text
returns-then-number-ge100-clause-text t c =
    rw (c.put_pair.ensures.text, c.put_long-end.ensures.text, append_assoc, decimal_pair c.args.number c.if-number-ge100.true (omega (arith, c.ranges.number))) refl

pub returns-then-number-ge100-clause-end : goal.returns-then-number-ge100-clause-end
returns-then-number-ge100-clause-end t c =
    omega (arith, c.put_pair.ensures.end, c.put_long-end.ensures.end, length_pair c.args.number c.if-number-ge100.true (omega (arith, c.ranges.number)))
