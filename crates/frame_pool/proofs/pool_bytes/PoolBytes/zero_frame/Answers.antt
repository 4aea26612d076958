use Rattle.std.proofs.Common.{◌≡◌, ◌+◌, ◌*◌, replicate, ap, ◌∙◌, arith}
use Rattle.frame_pool.specs.Frames.{overwritten, zero_frame}
use Rattle.frame_pool.specs.Parts.{zero_part}
use Rattle.frame_pool.proofs.Blank.{zeros_on}
use Rattle.frame_pool.proofs.pool_bytes.PoolBytes.zero_frame.Goals as goal

pub loop-part-preserved : goal.loop-part-preserved
loop-part-preserved c =
    c.zero_part.ensures
    ∙ (ap (λ xs. overwritten xs (c.args.at + c.loop-part.part * 512) zero_part) c.loop-part.invariant
    ∙ zeros_on c.args.self.now c.args.at c.loop-part.part (omega arith))

pub returns : goal.returns
unfolding zero_frame
returns c =
    let all : c.loop-part.part ≡ 8 = omega (arith, c.loop-part-test.false, c.loop-part.auto.part-end) in
    c.loop-part.invariant ∙ ap (λ n. overwritten c.args.self.now c.args.at (replicate (n * 512) 0)) all
