use Rattle.std.proofs.Common.{None, sym, ap, ◌∙◌}
use Rattle.interval_tree.specs.Intervals.{Intervals, next_overlapping}
use Rattle.interval_tree.proofs.Next.{next_is}
use Rattle.interval_tree.proofs.IntervalTree.next_overlapping.Goals as goal

pub returns-in-None : goal.returns-in-None
returns-in-None c =
    let next = next_is c.self.inside.spans c.self.inside.tree.items c.args.span None c.self.invariant.0 in
    c.least_overlapping.ensures ∙ sym next ∙ ap (λ (i : Intervals). next_overlapping i.spans c.args.span None) c.self.view_is ∙ ap (λ a. next_overlapping c.args.self.now.spans c.args.span a) (sym c.in-None.is)
