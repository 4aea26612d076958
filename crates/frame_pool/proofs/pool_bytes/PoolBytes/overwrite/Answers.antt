use Rattle.std.proofs.Common.{length, sym, ap, subst, arith}
use Rattle.frame_pool.specs.Parts.{AreParts}
use Rattle.frame_pool.proofs.Blank.{parts_written}
use Rattle.frame_pool.proofs.pool_bytes.PoolBytes.overwrite.Goals as goal

pub invariant_of-self : goal.invariant_of-self
invariant_of-self c =
    let b = c.self.inside in
    subst (λ xs. AreParts xs c.mark.new.self) (sym c.overwrite.ensures)
    (parts_written b.bytes c.args.from.now b.parts c.mark.new.self c.args.at c.self.invariant (omega (arith, c.requires, ap length c.self.view_is)) c.mark.ensures.size c.mark.ensures.kept
    (λ i l m. c.mark.ensures.marked i l (omega (arith, m))))
