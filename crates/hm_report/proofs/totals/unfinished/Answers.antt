use Rattle.std.proofs.Common.{◌≡◌, ℕ, length, slice_index, ap, ◌∙◌, arith}
use Rattle.hm_report.specs.Counted.{counted}
use Rattle.hm_report.specs.Summary.{unfinished_count}
use Rattle.hm_report.proofs.Actors.{counts_one, counts_none, count_same}
use Rattle.hm_report.proofs.totals.unfinished.Goals as goal
use Rattle.hm_report.proofs.totals.unfinished.Goals.{then-ended-actor, else-ended-actor}

pub loop-actor-preserved : goal.loop-actor-preserved
loop-actor-preserved c =
    let inv = c.loop-actor.invariant in
    let ended : ℕ → ℕ = λ a. slice_index c.operations_ended-ended.result a in
    elim c.if-ended-actor.branch [
      | then-ended-actor w ↦ record {
        same = counts_one c.args.script.now ended c.loop-actor.actor c.op_count.result c.loop-actor.count _ inv.same c.op_count.ensures w.if-ended-actor.true w.count-is;
        few = omega (arith, w.count-is, inv.few);
      }
      | else-ended-actor w ↦ record {
        same = counts_none c.args.script.now ended c.loop-actor.actor c.op_count.result c.loop-actor.count _ inv.same c.op_count.ensures w.if-ended-actor.false w.count-is;
        few = omega (arith, w.count-is, inv.few);
      }
    ]

pub returns : goal.returns
returns c =
    let script = c.args.script.now in
    let ended : ℕ → ℕ = λ a. slice_index c.operations_ended-ended.result a in
    let all : c.loop-actor.actor ≡ length script.actors = omega (arith, c.loop-actor-test.false, c.loop-actor.auto.actor-end, c.len-actor-end.ensures, ap (λ s. length s.actors) c.script.view_is) in
    c.loop-actor.invariant.same ∙ ap (unfinished_count script ended) all ∙ count_same script ended (counted script c.args.history.now.entries) (length script.actors) (λ a lt. c.operations_ended-ended.ensures.each a (omega (arith, c.facts.ensures.few_actors)))
