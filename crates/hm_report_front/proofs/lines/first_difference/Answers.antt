use Rattle.std.proofs.Common.{◌≡◌, ◌<◌, length, arith}
use Rattle.std.proofs.lemmas.Bool.Decides.{nat_tests}
use Rattle.hm_report_front.proofs.Loops.{shared_more, differ_here, other_line, one_ends, both_end, unequal, equal}
use Rattle.hm_report_front.proofs.lines.first_difference.Goals as goal
use Rattle.hm_report_front.proofs.lines.first_difference.Goals.{then-loop-rest-test+else-not-is_empty, else-loop-rest-test, else-is_empty-via-then-is_empty+else-is_empty-2, else-is_empty-via-else-is_empty}

pub returns-then-ne-clause-differ : goal.returns-then-ne-clause-differ
returns-then-ne-clause-differ c =
    let differs = unequal c.cut_line.result.0.now c.cut_line-in-loop-rest.result.0.now c.ne.result c.ne.ensures c.if-ne.true in
    differ_here c.args.text.now c.args.other.now c.loop-rest.rest.now c.loop-rest.others.now c.loop-rest.same c.loop-rest.invariant.0 (other_line c.loop-rest.rest.now c.loop-rest.others.now c.cut_line.result.0.now c.cut_line-in-loop-rest.result.0.now c.cut_line.result.1.now c.cut_line-in-loop-rest.result.1.now c.cut_line.ensures.lines c.cut_line-in-loop-rest.ensures.lines differs)

pub loop-rest-preserved : goal.loop-rest-preserved
loop-rest-preserved c =
    let same = equal c.cut_line.result.0.now c.cut_line-in-loop-rest.result.0.now c.ne.result c.ne.ensures c.if-ne.false in
    (shared_more c.args.text.now c.args.other.now c.loop-rest.rest.now c.loop-rest.others.now c.cut_line.result.0.now c.cut_line-in-loop-rest.result.0.now c.cut_line.result.1.now c.cut_line-in-loop-rest.result.1.now c.loop-rest.same c.loop-rest.invariant.0 c.cut_line.ensures.lines c.cut_line-in-loop-rest.ensures.lines same, omega (arith, c.loop-rest.invariant.1, c.cut_line.ensures.shorter))

pub returns-then-is_empty-2-clause-differ : goal.returns-then-is_empty-2-clause-differ
returns-then-is_empty-2-clause-differ c =
    let here : length c.loop-rest.rest.now ≡ 0 = grind (arith, nat_tests) in
    let there : length c.loop-rest.others.now ≡ 0 = grind (arith, nat_tests) in
    both_end c.args.text.now c.args.other.now c.loop-rest.rest.now c.loop-rest.others.now c.loop-rest.same c.loop-rest.invariant.0 here there

pub returns-else-is_empty-clause-differ : goal.returns-else-is_empty-clause-differ
returns-else-is_empty-clause-differ c =
    let both : length c.loop-rest.rest.now ≡ 0 → length c.loop-rest.others.now ≡ 0 → ⊥ = λ e f. elim c.else-is_empty.branch [
      | else-is_empty-via-then-is_empty+else-is_empty-2 w ↦ grind (arith, nat_tests)
      | else-is_empty-via-else-is_empty w ↦ grind (arith, nat_tests)
    ] in
    let some : 0 < length c.loop-rest.rest.now → 0 < length c.loop-rest.others.now → ⊥ = λ e f. elim c.loop-rest-test.branch [
      | then-loop-rest-test+else-not-is_empty w ↦ grind (arith, nat_tests)
      | else-loop-rest-test w ↦ grind (arith, nat_tests)
    ] in
    differ_here c.args.text.now c.args.other.now c.loop-rest.rest.now c.loop-rest.others.now c.loop-rest.same c.loop-rest.invariant.0 (one_ends c.loop-rest.rest.now c.loop-rest.others.now both some)
