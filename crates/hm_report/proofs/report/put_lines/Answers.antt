use Rattle.std.proofs.Common.{[], ◌++◌, refl, sym}
use Rattle.std.proofs.lemmas.List.{append-nil}
use Rattle.std.proofs.lemmas.Result.{err_from_is_err_and, on_ok_weaker, IfErr-weaker}
use Rattle.hm_report.specs.Report.{history_line, entry_lines}
use Rattle.hm_report.proofs.Joins.{one_stops, two_goes, two_stops}
use Rattle.hm_report.proofs.report.put_lines.Goals as goal

pub returns-in_err-put_text-clause-err : goal.returns-in_err-put_text-clause-err
returns-in_err-put_text-clause-err g c =
    let p = err_from_is_err_and c.from_residual.result c.from_residual.ensures.1 in
    let out = c.args.out.now in
    let text = c.args.text.now in
    let rest = history_line ++ entry_lines 0 c.args.entries.now in
    rw (p.1, p.2) (one_stops _ _ out out [] text rest (text ++ rest) _ (sym (append-nil out)) refl c.in_err-put_text.ensures.err)

pub returns-clause-ok : goal.returns-clause-ok
returns-clause-ok g c =
    let out = c.args.out.now in
    let text = c.args.text.now in
    let lines = entry_lines 0 c.args.entries.now in
    on_ok_weaker c.put_entries.result
    (λ s. two_goes _ _ _ out out c.put_text.new.out c.put.new.self c.put_entries.new.out [] text history_line lines (text ++ (history_line ++ lines)) (sym (append-nil out)) c.in_ok-put_text.ensures.ok c.put.ensures s refl)
    c.put_entries.ensures.ok

pub returns-clause-err : goal.returns-clause-err
returns-clause-err g c =
    let out = c.args.out.now in
    let text = c.args.text.now in
    let lines = entry_lines 0 c.args.entries.now in
    IfErr-weaker c.put_entries.result _ _
    (λ why s. two_stops _ _ _ out out c.put_text.new.out c.put.new.self [] text history_line lines (text ++ (history_line ++ lines)) why (sym (append-nil out)) c.in_ok-put_text.ensures.ok c.put.ensures refl s)
    c.put_entries.ensures.err
