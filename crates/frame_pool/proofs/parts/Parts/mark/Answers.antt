use Rattle.std.proofs.Common.{◌/◌, ap, ◌∙◌, arith}
use Rattle.frame_pool.specs.Parts.{part_marked}
use Rattle.frame_pool.proofs.Blank.{marks_kept, marks_set}
use Rattle.frame_pool.proofs.parts.Parts.mark.Goals as goal

pub returns-clause-kept : goal.returns-clause-kept
returns-clause-kept c = λ k t. marks_kept c.self.inside.marks.items c.grow.new.items.items c.set_marks.new.marks.items (c.args.at / 512) c.div_ceil-end.result k c.grow.ensures.items c.set_marks.ensures.items (omega (arith, c.div_ceil-end.ensures)) (ap (λ m. part_marked m k) c.self.view_is ∙ t)

pub returns-clause-marked : goal.returns-clause-marked
returns-clause-marked c = λ i l m. marks_set c.self.inside.marks.items c.grow.new.items.items c.set_marks.new.marks.items (c.args.at / 512) c.div_ceil-end.result (i / 512) c.grow.ensures.items c.set_marks.ensures.items (omega arith) (omega (arith, c.div_ceil-end.ensures))
