use Rattle.std.proofs.Common.{arith}
use Rattle.std.proofs.lemmas.Result.{IfOk-equal}
use Rattle.hm_script.proofs.Digits.{last_hex, more_hex}
use Rattle.hm_script.proofs.printing.+put_hex.Goals as goal

pub returns-then-number-lt16 : goal.returns-then-number-lt16
returns-then-number-lt16 t c =
    IfOk-equal c.push.result _ _ _ c.push.ensures.ok (rw c.hex_digit.ensures (last_hex c.args.out.now c.args.number (omega (arith, c.if-number-lt16.true))))

pub returns : goal.returns
returns t c =
    IfOk-equal c.push-2.result _ _ _ c.push-2.ensures.ok (rw c.hex_digit-2.ensures (more_hex c.args.out.now c.put_hex.new.out c.args.number (omega (arith, c.if-number-lt16.false)) (omega (arith, c.ranges.number.fits)) c.in_ok-put_hex.ensures))
