use Rattle.std.proofs.lemmas.Result.{IfErr-weaker, err_from_is_err_and}
use Rattle.hm_report.proofs.Sending.{stops_after, stops_before}
use Rattle.hm_edge.proofs.ending.write_both.Goals as goal

pub returns-in_err-write_all-clause-err : goal.returns-in_err-write_all-clause-err
returns-in_err-write_all-clause-err g c =
    let p = err_from_is_err_and c.from_residual.result c.from_residual.ensures.1 in
    rw (p.1, p.2) (stops_before _ _ c.args.first.now c.args.second.now _ c.in_err-write_all.ensures.err)

pub returns-clause-err : goal.returns-clause-err
returns-clause-err g c =
    IfErr-weaker c.write_all-2.result _ _ (λ why s. stops_after _ _ _ c.args.first.now c.args.second.now why c.in_ok-write_all.ensures.ok s) c.write_all-2.ensures.err
