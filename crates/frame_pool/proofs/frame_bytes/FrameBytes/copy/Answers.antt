use Rattle.std.proofs.Common.{◌≤◌, arith, ap, length}
use Rattle.frame_pool.proofs.Padded.{copied_grown, length_padded}
use Rattle.frame_pool.proofs.frame_bytes.FrameBytes.copy.Goals as goal

pub returns : goal.returns
returns c =
    let b = c.self.inside in
    let fits : length c.self.inside.front.items ≤ c.self.inside.size = omega (arith, c.self.invariant.within, b.front.ok.0) in
    let len = length_padded b.front.items b.size fits in
    copied_grown b.front.items _ _ _ _ _ _ b.size c.args.at c.args.to c.args.count c.self.view_is c.grow.ensures.items c.grow-2.ensures.items c.copy.ensures.items fits (omega (arith, c.requires.source, len, ap length c.self.view_is)) (omega (arith, c.requires.target, len, ap length c.self.view_is)) (omega arith) (omega arith)
