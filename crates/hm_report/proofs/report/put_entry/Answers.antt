use Rattle.std.proofs.Common.{[], ◌∷◌}
use Rattle.std.proofs.lemmas.List.{append-nil}
use Rattle.std.proofs.lemmas.Result.{err_from_is_err_and, on_ok_weaker, IfErr-weaker}
use Rattle.hm_report.specs.Words.{tail_text}
use Rattle.hm_report.specs.Report.{entry_line}
use Rattle.hm_report.proofs.Joins.{one_stops, two_goes, two_stops}
use Rattle.hm_report.proofs.Lines.{entry_split}
use Rattle.hm_report.proofs.report.put_entry.Goals as goal

pub returns-in_err-put_tail-clause-err : goal.returns-in_err-put_tail-clause-err
returns-in_err-put_tail-clause-err g c =
    let p = err_from_is_err_and c.from_residual.result c.from_residual.ensures.1 in
    let e = c.args.entry.now in
    rw (p.1, p.2) (one_stops _ _ c.args.out.now c.put_front.new.out _ (tail_text e.kind) (10 ∷ []) (entry_line c.args.at e) _ c.put_front.ensures.text (entry_split c.args.at e) c.in_err-put_tail.ensures.err)

pub returns-clause-ok : goal.returns-clause-ok
returns-clause-ok g c =
    let e = c.args.entry.now in
    on_ok_weaker c.settle.result
    (λ s. two_goes _ _ _ c.args.out.now c.put_front.new.out c.put_tail.new.out c.push.new.self c.settle.new.out _ (tail_text e.kind) (10 ∷ []) [] (entry_line c.args.at e) c.put_front.ensures.text c.in_ok-put_tail.ensures.ok c.push.ensures s (entry_split c.args.at e))
    c.settle.ensures.ok

pub returns-clause-err : goal.returns-clause-err
returns-clause-err g c =
    let e = c.args.entry.now in
    IfErr-weaker c.settle.result _ _
    (λ why s. two_stops _ _ _ c.args.out.now c.put_front.new.out c.put_tail.new.out c.push.new.self _ (tail_text e.kind) (10 ∷ []) [] (entry_line c.args.at e) why c.put_front.ensures.text c.in_ok-put_tail.ensures.ok c.push.ensures (entry_split c.args.at e) (rw (append-nil c.push.new.self) s))
    c.settle.ensures.err
