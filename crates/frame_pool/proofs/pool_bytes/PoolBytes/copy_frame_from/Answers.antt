use Rattle.std.proofs.Common.{◌≡◌, ◌+◌, ◌*◌, length, ap, ◌∙◌, arith}
use Rattle.frame_pool.specs.Frames.{overwritten, part_of}
use Rattle.frame_pool.proofs.Blank.{copy_on, length_copied}
use Rattle.frame_pool.proofs.pool_bytes.PoolBytes.copy_frame_from.Goals as goal

pub copy_part_from-requires-clause-target : goal.copy_part_from-requires-clause-target
copy_part_from-requires-clause-target c =
    let p = c.loop-part.part * 512 in
    omega (arith, c.requires.target, ap length c.loop-part.invariant, length_copied c.args.self.now c.args.from.now c.args.to c.args.at p (omega (arith, c.requires.target)) (omega (arith, c.requires.source)))

pub loop-part-preserved : goal.loop-part-preserved
loop-part-preserved c =
    let p = c.loop-part.part * 512 in
    c.copy_part_from.ensures
    ∙ (ap (λ xs. overwritten xs (c.args.to + p) (part_of c.args.from.now (c.args.at + p) 512)) c.loop-part.invariant
    ∙ copy_on c.args.self.now c.args.from.now c.args.at c.args.to c.loop-part.part (omega (arith, c.requires.target)) (omega (arith, c.requires.source)))

pub returns : goal.returns
returns c =
    let all : c.loop-part.part ≡ 8 = omega (arith, c.loop-part-test.false, c.loop-part.auto.part-end) in
    c.loop-part.invariant ∙ ap (λ n. overwritten c.args.self.now c.args.to (part_of c.args.from.now c.args.at (n * 512))) all
