use Rattle.std.proofs.Common.{length, ap, arith}
use Rattle.vm_areas.specs.Cuts.{parts}
use Rattle.vm_areas.proofs.Cutting.{cut_front}
use Rattle.vm_areas.proofs.push_cut.Goals as goal

pub push_parts-requires : goal.push_parts-requires
push_parts-requires c =
    let front = cut_front c.args.span c.args.inside c.args.areas.now c.loop-area.area-index c.area-item.result c.loop-area-test.true in
    let item = ap (λ a. length (parts c.args.span c.args.inside a)) c.area-item.is in
    let made = ap length c.loop-area.invariant.cut in
    omega (arith, front, item, made, c.requires.room, c.loop-area.invariant.room, c.loop-area.into.ok.0)
