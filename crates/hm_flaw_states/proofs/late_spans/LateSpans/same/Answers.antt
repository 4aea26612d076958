use Rattle.std.proofs.Common.{arith, ◌∙◌, sym, ap}
use Rattle.std.specs.Prelude.{map}
use Rattle.hm_flaw_states.specs.LateSpans.{pair_of}
use Rattle.hm_flaw_states.proofs.Late.{late_at, pairs_same, same_on, same_all}
use Rattle.hm_flaw_states.proofs.late_spans.LateSpans.same.Goals as goal

pub returns-then-not-same_spans-clause-no : goal.returns-then-not-same_spans-clause-no
returns-then-not-same_spans-clause-no c e =
    let n = c.loop-number.number in
    let here = ap (map pair_of) c.as_slice.ensures.value ∙ sym (late_at c.args.self.now.of_actors.items n c.index.result.now (omega arith) c.index.ensures) in
    let there = ap (map pair_of) c.as_slice-in-loop-number.ensures.value ∙ sym (late_at c.args.other.now.of_actors.items n c.index-in-loop-number.result.now (omega arith) c.index-in-loop-number.ensures) in
    sym c.if-not-same_spans.true ∙ c.same_spans.ensures.no (pairs_same c.as_slice.result.now c.as_slice-in-loop-number.result.now (here ∙ (e n ∙ sym there)))

pub loop-number-preserved : goal.loop-number-preserved
loop-number-preserved c =
    let n = c.loop-number.number in
    let here = ap (map pair_of) c.as_slice.ensures.value ∙ sym (late_at c.args.self.now.of_actors.items n c.index.result.now (omega arith) c.index.ensures) in
    let there = ap (map pair_of) c.as_slice-in-loop-number.ensures.value ∙ sym (late_at c.args.other.now.of_actors.items n c.index-in-loop-number.result.now (omega arith) c.index-in-loop-number.ensures) in
    same_on c.args.self.now.of_actors.items c.args.other.now.of_actors.items n c.loop-number.invariant (sym here ∙ (ap (map pair_of) (c.same_spans.ensures.yes c.if-not-same_spans.false) ∙ there))

pub returns-clause-yes : goal.returns-clause-yes
returns-clause-yes c = λ h. same_all c.args.self.now.of_actors.items c.args.other.now.of_actors.items 16 c.args.self.now.sized c.args.other.now.sized (λ a l. c.loop-number.invariant a (omega arith))
