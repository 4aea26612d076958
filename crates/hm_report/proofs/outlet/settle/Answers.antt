use Rattle.std.proofs.Common.{◌++◌, length, take, drop, sym, ap, ◌∙◌, arith}
use Rattle.std.proofs.lemmas.List.{append-nil, take-append-drop, length-drop}
use Rattle.std.proofs.lemmas.Result.{err_from_is_err_and}
use Rattle.hm_report.proofs.Sending.{stops_before}
use Rattle.hm_report.proofs.outlet.settle.Goals as goal

pub returns-in_err-write_all-clause-err : goal.returns-in_err-write_all-clause-err
returns-in_err-write_all-clause-err g c =
    let p = err_from_is_err_and c.from_residual.result c.from_residual.ensures.1 in
    let out = c.args.out.now in
    rw (p.1, p.2, ← take-append-drop 4096 out) (stops_before _ _ (take 4096 out) (drop 4096 out) _ (rw (← c.piece.ensures) c.in_err-write_all.ensures.err))

pub returns-in_ok-write_all-clause-ok : goal.returns-in_ok-write_all-clause-ok
returns-in_ok-write_all-clause-ok g c =
    let out = c.args.out.now in
    record {
      front = take 4096 out;
      whole = append-nil out ∙ sym (take-append-drop 4096 out) ∙ ap (λ rest. take 4096 out ++ rest) (sym c.remove_piece.ensures);
      sends = rw (← c.piece.ensures) c.in_ok-write_all.ensures.ok;
    }

pub returns-in_ok-write_all-clause-room : goal.returns-in_ok-write_all-clause-room
returns-in_ok-write_all-clause-room g c =
    omega (arith, c.requires, ap length c.remove_piece.ensures, length-drop 4096 c.args.out.now)
