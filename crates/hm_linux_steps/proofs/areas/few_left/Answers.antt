use Rattle.std.proofs.Common.{◌<◌, length, ap, arith}
use Rattle.std.proofs.lemmas.Bool.Decides.{nat_tests}
use Rattle.vm_areas.specs.Cuts.{parts, cut}
use Rattle.vm_areas.proofs.Cutting.{cut_front}
use Rattle.hm_linux_steps.proofs.areas.few_left.Goals as goal

pub returns-then-count-gt64 : goal.returns-then-count-gt64
returns-then-count-gt64 c =
    let front = cut_front c.args.span.now c.args.inside c.args.areas.now c.loop-area.area-index c.area-item.result c.loop-area-test.true in
    let item = ap (λ a. length (parts c.args.span.now c.args.inside a)) c.area-item.is in
    let more : 64 < length (cut c.args.span.now c.args.inside c.args.areas.now) =
    omega (arith, front, item, c.loop-area.invariant.count, c.count_parts-count.ensures.count, c.if-count-gt64.true) in
    grind (arith, nat_tests, more)
