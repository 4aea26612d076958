use Rattle.std.proofs.Common.{◌≤◌, arith}
use Rattle.skip_masks.proofs.Bits.{grown_fits}
use Rattle.skip_masks.proofs.words.mask.Goals as goal

pub overflow_mul-mask : goal.overflow_mul-mask
overflow_mul-mask g c =
    let few : c.min-count.result ≤ 64 = omega (arith, c.min-count.ensures) in
    omega (arith, grown_fits c.args.every c.number-first.result c.loop-left.left c.min-count.result c.loop-left.mask c.loop-left-test.true c.loop-left.invariant.0 few c.loop-left.invariant.1)

pub overflow_add-mask : goal.overflow_add-mask
overflow_add-mask g c =
    let few : c.min-count.result ≤ 64 = omega (arith, c.min-count.ensures) in
    omega (arith, c.bit.ensures, grown_fits c.args.every c.number-first.result c.loop-left.left c.min-count.result c.loop-left.mask c.loop-left-test.true c.loop-left.invariant.0 few c.loop-left.invariant.1)
