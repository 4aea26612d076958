use Rattle.std.proofs.Common.{◌≤◌, arith, ap, length}
use Rattle.frame_pool.proofs.Padded.{written_grown, length_padded}
use Rattle.frame_pool.proofs.frame_bytes.FrameBytes.overwrite.Goals as goal

pub returns : goal.returns
returns c =
    let b = c.self.inside in
    let fits : length c.self.inside.front.items ≤ c.self.inside.size = omega (arith, c.self.invariant.within, b.front.ok.0) in
    written_grown b.front.items _ _ _ c.args.from.now _ b.size c.args.at c.self.view_is c.grow.ensures.items c.overwrite.ensures.items fits (omega (arith, c.requires, length_padded b.front.items b.size fits, ap length c.self.view_is)) (omega arith)
