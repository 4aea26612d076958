use Rattle.std.proofs.Common.{◌<◌, ap, arith}
use Rattle.std.proofs.lemmas.Bool.Decides.{nat_tests}
use Rattle.std.proofs.lemmas.List.Sums.{sum_by_more_le}
use Rattle.std.specs.Prelude.{sum_by}
use Rattle.vm_areas.specs.Cuts.{shared}
use Rattle.hm_linux_steps.proofs.areas.all_mapped.Goals as goal

pub returns-then-pages-count : goal.returns-then-pages-count
returns-then-pages-count c =
    let front = sum_by_more_le (shared c.args.span.now) c.args.areas.now c.loop-area.area-index c.area-item.result c.loop-area-test.true in
    let item = ap (shared c.args.span.now) c.area-item.is in
    let more : c.args.span.now.count < sum_by (shared c.args.span.now) c.args.areas.now =
    omega (arith, front, item, c.loop-area.invariant.pages, c.shared-pages.ensures.pages, c.count.ensures.same, c.if-pages-count.true) in
    grind (arith, nat_tests, more)
