use Rattle.std.proofs.Common.{length-append, arith}
use Rattle.hm_report.proofs.Numbers.{length_decimal}
use Rattle.hm_report.proofs.numerals.put_decimal.Goals as goal

pub put_number-requires : goal.put_number-requires
put_number-requires c =
    rw (c.put.ensures, length-append) (omega (arith, c.requires, length_decimal c.args.number (omega (arith, c.ranges.number))))

pub returns-clause-room : goal.returns-clause-room
returns-clause-room c =
    rw (c.put_number.ensures, c.put.ensures, length-append, length-append) (omega (arith, length_decimal c.args.number (omega (arith, c.ranges.number))))
