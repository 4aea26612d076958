use Rattle.std.proofs.Common.{◌≡◌, ◌/◌, false, length, sym, ap, ◌∙◌, subst, arith}
use Rattle.frame_pool.specs.Frames.{overwritten}
use Rattle.frame_pool.specs.Parts.{AreParts, part_marked, zero_part}
use Rattle.frame_pool.proofs.Blank.{blank_over, parts_cleared}
use Rattle.frame_pool.proofs.pool_bytes.PoolBytes.zero_part.Goals as goal

pub invariant_of-self : goal.invariant_of-self
unfolding zero_part
invariant_of-self c =
    let b = c.self.inside in
    subst (λ xs. AreParts xs c.clear.new.self) (sym c.zero.ensures)
    (parts_cleared b.bytes b.parts c.clear.new.self c.args.at c.self.invariant c.requires.part (omega (arith, c.requires.inside, ap length c.self.view_is)) c.clear.ensures.size c.clear.ensures.others)

pub returns-then-has : goal.returns-then-has
unfolding zero_part
returns-then-has c = c.zero.ensures ∙ ap (λ xs. overwritten xs c.args.at zero_part) c.self.view_is

pub returns-else-has : goal.returns-else-has
returns-else-has c =
    let b = c.self.inside in
    let blank : part_marked c.self.inside.parts (c.args.at / 512) ≡ false = sym c.has.ensures ∙ c.if-has.false in
    sym c.self.view_is
    ∙ (blank_over b.bytes b.parts c.args.at c.self.invariant c.requires.part blank (omega (arith, c.requires.inside, ap length c.self.view_is))
    ∙ ap (λ xs. overwritten xs c.args.at zero_part) c.self.view_is)
