use Rattle.std.proofs.Common.{◌≡◌, ◌+◌, ◌≤◌, ◌/◌, false, length, sym, ap, ◌∙◌, subst, arith}
use Rattle.frame_pool.specs.Frames.{overwritten, part_of}
use Rattle.frame_pool.specs.Parts.{AreParts, part_marked}
use Rattle.frame_pool.proofs.Blank.{part_is_blank, part_length, parts_written}
use Rattle.frame_pool.proofs.pool_bytes.PoolBytes.copy_part.Goals as goal

pub invariant_of-self : goal.invariant_of-self
invariant_of-self c =
    let b = c.self.inside in
    let source : c.args.at + 512 ≤ length c.self.inside.bytes = omega (arith, c.requires.source, ap length c.self.view_is) in
    let len = part_length b.bytes c.args.at 512 source in
    subst (λ xs. AreParts xs c.mark.new.self) (sym c.copy.ensures)
    (parts_written b.bytes (part_of b.bytes c.args.at 512) b.parts c.mark.new.self c.args.to c.self.invariant (omega (arith, c.requires.target, ap length c.self.view_is, len)) c.mark.ensures.size c.mark.ensures.kept
    (λ i l m. c.mark.ensures.marked i l (omega (arith, m, len))))

pub returns-else-has : goal.returns-else-has
returns-else-has c =
    let b = c.self.inside in
    let blank : part_marked c.self.inside.parts (c.args.at / 512) ≡ false = sym c.has.ensures ∙ c.if-has.false in
    c.zero_part.ensures ∙ ap (overwritten c.args.self.now c.args.to)
    (sym (part_is_blank b.bytes b.parts c.args.at c.self.invariant c.requires.from blank (omega (arith, c.requires.source, ap length c.self.view_is)))
    ∙ ap (λ xs. part_of xs c.args.at 512) c.self.view_is)
