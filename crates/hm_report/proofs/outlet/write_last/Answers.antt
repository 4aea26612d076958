use Rattle.std.proofs.lemmas.Result.{IfErr-weaker}
use Rattle.hm_report.proofs.Sending.{stops_last}
use Rattle.hm_report.proofs.outlet.write_last.Goals as goal

pub returns-clause-err : goal.returns-clause-err
returns-clause-err g c =
    IfErr-weaker c.send_on.result _ _ (λ why s. stops_last _ _ _ c.args.bytes.now why c.in_ok-write_pieces.ensures.ok s) c.send_on.ensures.err
