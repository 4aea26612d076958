use Rattle.std.proofs.Common.{Some, None, ap, sym, ◌∙◌, arith}
use Rattle.interval_tree.specs.Intervals.{span_overlaps}
use Rattle.interval_tree.proofs.Above.{found_above, read_at}
use Rattle.interval_tree.proofs.Ends.{none_below}
use Rattle.interval_tree.proofs.next_above.Goals as goal

pub returns-then-overlaps : goal.returns-then-overlaps
returns-then-overlaps c =
    let read = read_at c.args.spans.now c.loop-id.id c.index-spans-id.result None (omega arith) in
    ap (λ m. Some m) c.new.ensures ∙ found_above c.args.spans.now c.args.span c.args.after c.loop-id.id (omega arith) (omega arith)
    (ap (span_overlaps c.args.span) read ∙ (sym c.overlaps.ensures ∙ c.if-overlaps.true)) c.loop-id.invariant

pub returns : goal.returns
returns c =
    none_below c.args.spans.now c.args.span c.args.after c.args.end _ c.requires c.min-id-end.ensures
    (λ j a b. c.loop-id.invariant j a (omega (arith, b, c.loop-id-test.false)))
