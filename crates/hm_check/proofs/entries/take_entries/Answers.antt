use Rattle.std.proofs.Common.{Bool, subst}
use Rattle.hm_check.specs.Parts.{TakesLine}
use Rattle.hm_check.proofs.Loops.{taking_more}
use Rattle.hm_check.proofs.entries.take_entries.Goals as goal

pub loop-alloc-preserved : goal.loop-alloc-preserved
loop-alloc-preserved c =
    let added = subst (λ (b : Bool). TakesLine c.loop-alloc.world c.take_line.new.world c.cut_line.result.0.now b) c.if-not-branch.false c.in_ok-take_line.ensures in
    taking_more c.args.world.now c.loop-alloc.world c.take_line.new.world c.args.bytes.now c.loop-alloc.rest.now c.cut_line.result.0.now c.cut_line.result.1.now c.loop-alloc.invariant c.cut_line.ensures.lines added
