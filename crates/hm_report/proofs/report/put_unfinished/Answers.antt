use Rattle.std.proofs.Common.{ℕ, ◌<◌, ◌-◌, ◌+◌, ◌++◌, length, slice_index, ap, ◌∙◌, arith}
use Rattle.std.specs.List.{flat_map}
use Rattle.std.proofs.lemmas.Result.{err_from_is_err_and}
use Rattle.hm_history.specs.Memory.Words.{numbers}
use Rattle.hm_history.specs.Kernel.Going.{ops_of}
use Rattle.hm_report.specs.Report.{unfinished_among, unfinished_lines, unfinished_line}
use Rattle.hm_report.proofs.Joins.{loop_put_stops, loop_put_goes}
use Rattle.hm_report.proofs.Lines.{among_more, among_at}
use Rattle.hm_report.proofs.report.put_unfinished.Goals as goal

pub returns-in_err-settle-clause-err : goal.returns-in_err-settle-clause-err
returns-in_err-settle-clause-err g c =
    let p = err_from_is_err_and c.from_residual.result c.from_residual.ensures.1 in
    let script = c.args.script.now in
    let ended : ℕ → ℕ = λ a. slice_index c.args.ended.now a in
    let n = c.loop-actor.actor in
    let m = length script.actors in
    let out = c.loop-actor.out in
    let index = ended n in
    let put = c.put_unfinished_line.ensures.text ∙ ap (λ k. out ++ unfinished_line n index k) c.op_count-count.ensures in
    let lt : n < m = omega (arith, c.loop-actor-test.true, c.len-actor-end.ensures, ap (λ s. length s.actors) c.script.view_is) in
    let rest = flat_map (λ a. unfinished_line a (ended a) (length (ops_of script a))) (numbers (n + 1) (m - n - 1)) in
    rw (p.1, p.2) (loop_put_stops _ _ _ c.args.out.now out c.put_unfinished_line.new.out (unfinished_among script ended n) (unfinished_line n index (length (ops_of script n))) rest (unfinished_lines script ended) _ c.loop-actor.invariant.goes put (among_at script ended n m lt) c.in_err-settle.ensures.err)

pub loop-actor-preserved : goal.loop-actor-preserved
loop-actor-preserved g c =
    let script = c.args.script.now in
    let ended : ℕ → ℕ = λ a. slice_index c.args.ended.now a in
    let n = c.loop-actor.actor in
    let out = c.loop-actor.out in
    let index = ended n in
    let put = c.put_unfinished_line.ensures.text ∙ ap (λ k. out ++ unfinished_line n index k) c.op_count-count.ensures in
    record {
      goes = loop_put_goes _ _ _ c.args.out.now out c.put_unfinished_line.new.out c.settle.new.out (unfinished_among script ended n) (unfinished_line n index (length (ops_of script n))) (unfinished_among script ended (n + 1)) c.loop-actor.invariant.goes put (among_more script ended n) c.in_ok-settle.ensures.ok;
      room = omega (arith, c.in_ok-settle.ensures.room);
    }
