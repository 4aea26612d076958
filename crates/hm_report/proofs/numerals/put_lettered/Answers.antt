use Rattle.std.proofs.Common.{length-append, arith}
use Rattle.hm_report.proofs.Numbers.{length_decimal}
use Rattle.hm_report.proofs.numerals.put_lettered.Goals as goal

pub put_lettered-requires : goal.put_lettered-requires
put_lettered-requires c = omega (arith, c.requires, length_decimal c.args.number (omega (arith, c.ranges.number)))

pub returns-clause-room : goal.returns-clause-room
returns-clause-room c =
    rw (c.put_lettered.ensures, length-append) (omega (arith, length_decimal c.args.number (omega (arith, c.ranges.number))))
