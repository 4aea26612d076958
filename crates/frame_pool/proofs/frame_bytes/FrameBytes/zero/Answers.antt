use Rattle.std.proofs.Common.{◌≤◌, ℕ, replicate, arith, ap, length}
use Rattle.std.proofs.lemmas.List.{length-replicate}
use Rattle.frame_pool.proofs.Padded.{length_padded, written_grown}
use Rattle.frame_pool.proofs.frame_bytes.FrameBytes.zero.Goals as goal

pub returns : goal.returns
returns c =
    let b = c.self.inside in
    let fits : length c.self.inside.front.items ≤ c.self.inside.size = omega (arith, c.self.invariant.within, b.front.ok.0) in
    written_grown b.front.items _ _ _ (replicate c.args.count 0) _ b.size c.args.at c.self.view_is c.grow.ensures.items c.overwrite_by_zeros.ensures.items fits (omega (arith, c.requires, length_padded b.front.items b.size fits, ap length c.self.view_is)) (omega (arith, length-replicate {A = ℕ} c.args.count 0))
