use Rattle.std.proofs.Common.{◌≡◌, ◌<◌, None, ap, ◌∙◌, arith}
use Rattle.interval_tree.specs.declared.node.Interval.{Interval}
use Rattle.interval_tree.specs.Intervals.{Intervals, span_at}
use Rattle.interval_tree.proofs.Ends.{end_with}
use Rattle.interval_tree.proofs.Index.{lacks_key, index_with}
use Rattle.interval_tree.proofs.IntervalTree.insert_reserved.Goals as goal

pub insert-requires-clause-lacks : goal.insert-requires-clause-lacks
insert-requires-clause-lacks c =
    let absent : span_at c.self.inside.spans c.args.id ≡ None = ap (λ (i : Intervals). span_at i.spans c.args.id) c.self.view_is ∙ c.requires.absent in
    let below : c.args.id < 32 = omega (arith, c.number-at.ensures.same, c.number-at.ensures.below) in
    rw c.alone.ensures.interval (lacks_key c.self.inside.spans c.args.span c.args.id c.self.inside.tree.items c.self.invariant.0.agrees below absent)

pub invariant_of-self : goal.invariant_of-self
invariant_of-self c =
    let x : Interval = record { id = c.args.id; span = c.args.span } in
    let absent : span_at c.self.inside.spans c.args.id ≡ None = ap (λ (i : Intervals). span_at i.spans c.args.id) c.self.view_is ∙ c.requires.absent in
    let below : c.args.id < 32 = omega (arith, c.number-at.ensures.same, c.number-at.ensures.below) in (
      rw (c.number-at.ensures.same, c.insert.ensures.items, c.alone.ensures.interval) (index_with c.self.inside.spans c.self.inside.tree.items x c.self.invariant.0 below absent),
      end_with c.self.inside.spans c.self.inside.end _ _ _ c.self.invariant.1 (omega (arith, c.max-self-inside.ensures)) (omega (arith, c.max-self-inside.ensures, c.number-at.ensures.same, c.number.ensures.same)),
    )
