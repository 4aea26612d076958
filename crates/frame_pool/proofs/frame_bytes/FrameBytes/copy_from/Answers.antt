use Rattle.std.proofs.Common.{◌≤◌, arith, ap, ◌∙◌, length}
use Rattle.frame_pool.specs.Frames.{overwritten, padded, part_of}
use Rattle.frame_pool.proofs.Padded.{written_grown, length_padded, length_part, part_shown}
use Rattle.frame_pool.proofs.frame_bytes.FrameBytes.copy_from.Goals as goal

pub returns : goal.returns
returns c =
    let b = c.self.inside in
    let f = c.from.inside in
    let fits : length c.self.inside.front.items ≤ c.self.inside.size = omega (arith, c.self.invariant.within, b.front.ok.0) in
    let source : length c.from.inside.front.items ≤ c.from.inside.size = omega (arith, c.from.invariant.within, f.front.ok.0) in
    let part = padded (part_of f.front.items c.args.at c.args.count) c.args.count in
    written_grown b.front.items _ _ _ part _ b.size c.args.to c.self.view_is c.grow.ensures.items (c.read_over.ensures.items ∙ ap (λ xs. overwritten c.grow.new.items.items c.args.to (padded (part_of xs c.args.at c.args.count) c.args.count)) c.deref.ensures.value) fits (omega (arith, c.requires.target, length_padded b.front.items b.size fits, ap length c.self.view_is)) (omega (arith, length_part f.front.items c.args.at c.args.count))
    ∙ ap (overwritten c.args.self.now c.args.to)
    (part_shown f.front.items f.size c.args.at c.args.count (omega (arith, c.requires.source, length_padded f.front.items f.size source, ap length c.from.view_is))
    ∙ ap (λ xs. part_of xs c.args.at c.args.count) c.from.view_is)
