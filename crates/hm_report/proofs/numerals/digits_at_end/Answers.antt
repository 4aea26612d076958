use Rattle.std.proofs.Common.{false, ap, arith}
use Rattle.std.specs.Fmt.{digits, digits_onto}
use Rattle.std.proofs.Math.ListN.{drop_of_length-le}
use Rattle.hm_report.proofs.numerals.digits_at_end.Goals as goal

pub loop-at-init : goal.loop-at-init
unfolding digits
loop-at-init c = record {
  within = omega arith;
  text = ap (digits_onto 64 c.args.base false c.args.number) (drop_of_length-le c.args.into.now {i = 64} (omega arith));
}
