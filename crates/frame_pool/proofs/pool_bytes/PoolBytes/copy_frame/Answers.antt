use Rattle.std.proofs.Common.{◌≡◌, ◌+◌, ◌*◌, length, ap, ◌∙◌, arith}
use Rattle.frame_pool.specs.Frames.{overwritten, part_of}
use Rattle.frame_pool.proofs.Blank.{copy_on, part_elsewhere, part_length, length_copied}
use Rattle.frame_pool.proofs.pool_bytes.PoolBytes.copy_frame.Goals as goal

pub copy_part-requires-clause-source : goal.copy_part-requires-clause-source
copy_part-requires-clause-source c =
    let p = c.loop-part.part * 512 in
    omega (arith, c.requires.source, ap length c.loop-part.invariant, length_copied c.args.self.now c.args.self.now c.args.to c.args.at p (omega (arith, c.requires.target)) (omega (arith, c.requires.source)))

pub copy_part-requires-clause-target : goal.copy_part-requires-clause-target
copy_part-requires-clause-target c =
    let p = c.loop-part.part * 512 in
    omega (arith, c.requires.target, ap length c.loop-part.invariant, length_copied c.args.self.now c.args.self.now c.args.to c.args.at p (omega (arith, c.requires.target)) (omega (arith, c.requires.source)))

pub loop-part-preserved : goal.loop-part-preserved
loop-part-preserved c =
    let x = c.args.self.now in
    let p = c.loop-part.part * 512 in
    c.copy_part.ensures
    ∙ (ap (λ xs. overwritten xs (c.args.to + p) (part_of xs (c.args.at + p) 512)) c.loop-part.invariant
    ∙ (ap (overwritten (overwritten x c.args.to (part_of x c.args.at p)) (c.args.to + p))
    (part_elsewhere x (part_of x c.args.at p) c.args.at c.args.to p p c.requires.from c.requires.over c.requires.differ (part_length x c.args.at p (omega (arith, c.requires.source))) (omega arith) (omega arith) c.requires.target c.requires.source)
    ∙ copy_on x x c.args.at c.args.to c.loop-part.part (omega (arith, c.requires.target)) (omega (arith, c.requires.source))))

pub returns : goal.returns
returns c =
    let all : c.loop-part.part ≡ 8 = omega (arith, c.loop-part-test.false, c.loop-part.auto.part-end) in
    c.loop-part.invariant ∙ ap (λ n. overwritten c.args.self.now c.args.to (part_of c.args.self.now c.args.at (n * 512))) all
