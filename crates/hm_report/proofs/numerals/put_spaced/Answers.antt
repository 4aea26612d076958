use Rattle.std.proofs.Common.{length-append, arith}
use Rattle.hm_report.proofs.Numbers.{length_decimal}
use Rattle.hm_report.proofs.numerals.put_spaced.Goals as goal

pub put_spaced-requires : goal.put_spaced-requires
put_spaced-requires c = omega (arith, c.requires, length_decimal c.args.number (omega (arith, c.ranges.number)))

pub returns-clause-room : goal.returns-clause-room
returns-clause-room c =
    rw (c.put_spaced.ensures, length-append) (omega (arith, length_decimal c.args.number (omega (arith, c.ranges.number))))
