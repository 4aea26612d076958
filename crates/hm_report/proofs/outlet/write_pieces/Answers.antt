use Rattle.std.proofs.Common.{◌≡◌, ◌+◌, ◌-◌, arith}
use Rattle.std.proofs.lemmas.Result.{err_from_is_err_and}
use Rattle.hm_report.proofs.Sending.{piece_sends, piece_stops}
use Rattle.hm_report.proofs.outlet.write_pieces.Goals as goal

pub returns-in_err-write_all-clause-err : goal.returns-in_err-write_all-clause-err
returns-in_err-write_all-clause-err g c =
    let p = err_from_is_err_and c.from_residual.result c.from_residual.ensures.1 in
    rw (p.1, p.2) (piece_stops _ _ _ c.args.bytes.now c.loop-at.at _ _ c.loop-at.invariant.sends c.in_err-write_all.ensures.err)

pub loop-at-preserved : goal.loop-at-preserved
loop-at-preserved g c =
    let at = c.loop-at.at in
    let n = c.min.result in
    let less : (at + n) - at ≡ n = omega arith in
    record {
      sends = piece_sends _ _ _ c.args.bytes.now at n ((at + n) - at) less c.loop-at.invariant.sends c.in_ok-write_all.ensures.ok;
      within = omega (arith, c.min.ensures);
    }
