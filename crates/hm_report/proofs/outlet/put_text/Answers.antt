use Rattle.std.proofs.Common.{◌≡◌, ◌+◌, ◌-◌, arith}
use Rattle.std.proofs.lemmas.Result.{err_from_is_err_and}
use Rattle.hm_report.proofs.Sending.{text_goes, text_stops}
use Rattle.hm_report.proofs.outlet.put_text.Goals as goal

pub returns-in_err-settle-clause-err : goal.returns-in_err-settle-clause-err
returns-in_err-settle-clause-err g c =
    let p = err_from_is_err_and c.from_residual.result c.from_residual.ensures.1 in
    rw (p.1, p.2) (text_stops _ _ _ c.args.out.now c.loop-at.out c.put.new.self c.args.text.now c.loop-at.at _ _ c.put.ensures c.loop-at.invariant.goes c.in_err-settle.ensures.err)

pub loop-at-preserved : goal.loop-at-preserved
loop-at-preserved g c =
    let at = c.loop-at.at in
    let n = c.min.result in
    let less : (at + n) - at ≡ n = omega arith in
    record {
      goes = text_goes _ _ _ c.args.out.now c.loop-at.out c.put.new.self c.settle.new.out c.args.text.now at n ((at + n) - at) less c.put.ensures c.loop-at.invariant.goes c.in_ok-settle.ensures.ok;
      within = omega (arith, c.min.ensures);
      room = c.in_ok-settle.ensures.room;
    }
