use Rattle.std.proofs.Common.{arith}
use Rattle.std.proofs.lemmas.Result.{IfOk-equal}
use Rattle.hm_script.proofs.Digits.{last_decimal, more_decimal}
use Rattle.hm_script.proofs.printing.+put_decimal.Goals as goal

pub returns-then-number-lt10 : goal.returns-then-number-lt10
returns-then-number-lt10 t c = IfOk-equal c.push.result _ _ _ c.push.ensures.ok (last_decimal c.args.out.now c.args.number (omega (arith, c.if-number-lt10.true)))

pub returns : goal.returns
returns t c =
    IfOk-equal c.push-2.result _ _ _ c.push-2.ensures.ok (more_decimal c.args.out.now c.put_decimal.new.out c.args.number (omega (arith, c.if-number-lt10.false)) (omega (arith, c.ranges.number.fits)) c.in_ok-put_decimal.ensures)
