use Rattle.std.proofs.Common.{◌≡◌, false, not, sym, ap, ◌∙◌, arith}
use Rattle.std.proofs.lemmas.Bool.Decides.{Decides-eqb}
use Rattle.std.proofs.lemmas.Slice.Eq.{slice_eq-Decides}
use Rattle.std.specs.Str.{bytes_eq}
use Rattle.hm_report.specs.Report.{history_line}
use Rattle.hm_report_front.proofs.Loops.{passed_more, front_found, front_count}
use Rattle.hm_report_front.proofs.front.cut_front.Goals as goal

pub returns-then-eq-clause-parts : goal.returns-then-eq-clause-parts
returns-then-eq-clause-parts c =
    let found = (slice_eq-Decides Decides-eqb c.cut_line.result.0.now c.as_slice.result.now c.eq.result c.eq.ensures).0 c.if-eq.true in
    front_found c.args.bytes.now c.loop-rest.rest.now c.split_at.result.0.now c.cut_line.result.0.now c.cut_line.result.1 c.loop-rest.count c.loop-rest.invariant.0 c.split_at.ensures.front c.cut_line.ensures.lines (found ∙ c.as_slice.ensures)

pub returns-then-eq-clause-count : goal.returns-then-eq-clause-count
returns-then-eq-clause-count c = front_count c.args.bytes.now c.loop-rest.rest.now c.split_at.result.0.now c.loop-rest.count c.loop-rest.invariant.0 c.split_at.ensures.front

pub loop-rest-preserved : goal.loop-rest-preserved
loop-rest-preserved c =
    let other : bytes_eq c.cut_line.result.0.now history_line ≡ false = ap (bytes_eq c.cut_line.result.0.now) (sym c.as_slice.ensures) ∙ sym c.eq.ensures ∙ c.if-eq.false in
    (passed_more c.args.bytes.now c.loop-rest.rest.now c.cut_line.result.0.now c.cut_line.result.1.now c.loop-rest.count c.loop-rest.invariant.0 c.cut_line.ensures.lines (ap not other), omega (arith, c.loop-rest.invariant.1, c.cut_line.ensures.shorter))
