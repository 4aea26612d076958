use Rattle.std.proofs.Common.{arith, refl}
use Rattle.hm_report.proofs.Numbers.{decimal_one, length_one}
use Rattle.hm_report.proofs.digits.put_digits.Goals as goal

pub put_at-requires : goal.put_at-requires
put_at-requires c = omega (arith, c.requires, length_one c.args.number c.if-number-lt10.true)

pub returns-then-number-lt10-clause-text : goal.returns-then-number-lt10-clause-text
returns-then-number-lt10-clause-text c =
    rw (c.put_at.ensures.end, c.put_at.ensures.text, decimal_one c.args.number c.if-number-lt10.true) refl

pub returns-then-number-lt10-clause-end : goal.returns-then-number-lt10-clause-end
returns-then-number-lt10-clause-end c =
    omega (arith, c.put_at.ensures.end, length_one c.args.number c.if-number-lt10.true)
