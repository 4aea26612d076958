use Rattle.std.proofs.Common.{◌≡◌, ◌<◌, Some, arith}
use Rattle.std.proofs.lemmas.Grind.{common_steps, elements}
use Rattle.interval_tree.specs.Intervals.{span_at}
use Rattle.interval_tree.proofs.Ends.{end_without}
use Rattle.interval_tree.proofs.Index.{index_without}
use Rattle.interval_tree.proofs.IntervalTree.remove.Goals as goal

pub invariant_of-self : goal.invariant_of-self
invariant_of-self c =
    let below : c.args.id < 32 = omega (arith, c.number-at.ensures.same, c.number-at.ensures.below) in
    let here : span_at c.self.inside.spans c.args.id ≡ Some c.in-Some.span = grind (arith, common_steps, elements) in (
      rw (c.number-at.ensures.same, c.remove.ensures.items, c.key.ensures) (index_without c.self.inside.spans c.self.inside.tree.items c.args.id c.in-Some.span c.self.invariant.0 below here),
      end_without c.self.inside.spans c.self.inside.end c.number-at.result c.self.invariant.1,
    )
