use Rattle.std.proofs.Common.{◌++◌}
use Rattle.std.specs.Prelude.{codes}
use Rattle.std.proofs.lemmas.Result.{IfErr-weaker, err_from_is_err_and}
use Rattle.hm_report.proofs.Sending.{sends_more, stops_after, stops_before, stops_last}
use Rattle.hm_edge.proofs.ending.write_line.Goals as goal

pub returns-in_err-write_both-clause-err : goal.returns-in_err-write_both-clause-err
returns-in_err-write_both-clause-err g c =
    let p = err_from_is_err_and c.from_residual.result c.from_residual.ensures.1 in
    rw (p.1, p.2, ← c.as_bytes.ensures.value) (stops_before _ _ (c.as_bytes.result.now ++ codes ": ") (c.args.message.now ++ codes "\n") _ c.in_err-write_both.ensures.err)

pub returns-in_err-write_both-2-clause-err : goal.returns-in_err-write_both-2-clause-err
returns-in_err-write_both-2-clause-err g c =
    let p = err_from_is_err_and c.from_residual-in_err-write_both-2.result c.from_residual-in_err-write_both-2.ensures.1 in
    rw (p.1, p.2, ← c.as_bytes.ensures.value) (stops_after _ _ _ (c.as_bytes.result.now ++ codes ": ") (c.args.message.now ++ codes "\n") _ c.in_ok-write_both.ensures.ok c.in_err-write_both-2.ensures.err)

pub returns-clause-err : goal.returns-clause-err
returns-clause-err g c =
    let first = c.as_bytes.result.now ++ codes ": " in
    let second = c.args.message.now ++ codes "\n" in
    rw (← c.as_bytes.ensures.value) (IfErr-weaker c.send_on.result _ _ (λ why s. stops_last _ _ _ (first ++ second) why (sends_more _ _ _ first second c.in_ok-write_both.ensures.ok c.in_ok-write_both-2.ensures.ok) s) c.send_on.ensures.err)
