use Rattle.std.proofs.Common.{◌≡◌, ◌≤◌, length, arith, ◌∙◌}
use Rattle.std.proofs.lemmas.Bool.Decides.{nat_tests}
use Rattle.hm_script.specs.Automaton.{lines}
use Rattle.hm_judge.proofs.Places.{drop_next, get_here, get_past, no_lines}
use Rattle.hm_judge.proofs.lines.line_at.Goals as goal

pub returns-then-is_empty : goal.returns-then-is_empty
returns-then-is_empty c =
    let none : length c.loop-at.rest.now ≡ 0 = grind (arith, nat_tests) in
    let within : c.loop-at.at ≤ c.args.place = omega arith in
    get_past (lines c.args.bytes.now) c.loop-at.at c.args.place (c.loop-at.invariant ∙ no_lines c.loop-at.rest.now none) within

pub loop-at-preserved : goal.loop-at-preserved
loop-at-preserved c =
    drop_next (lines c.args.bytes.now) (lines c.cut_line.result.1.now) c.loop-at.at c.cut_line.result.0.now (c.loop-at.invariant ∙ c.cut_line.ensures.lines)

pub returns-then-is_empty-2 : goal.returns-then-is_empty-2
returns-then-is_empty-2 c =
    let none : length c.loop-at.rest.now ≡ 0 = grind (arith, nat_tests) in
    let within : c.loop-at.at ≤ c.args.place = omega arith in
    get_past (lines c.args.bytes.now) c.loop-at.at c.args.place (c.loop-at.invariant ∙ no_lines c.loop-at.rest.now none) within

pub returns : goal.returns
returns c =
    let same : c.loop-at.at ≡ c.args.place = omega arith in
    rw (← same) (get_here (lines c.args.bytes.now) (lines c.cut_line-2.result.1.now) c.loop-at.at c.cut_line-2.result.0.now (c.loop-at.invariant ∙ c.cut_line-2.ensures.lines))
