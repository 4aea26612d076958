use Rattle.std.proofs.Common.{◌≡◌, ◌≤◌, ◌<◌, ℕ, List, ◌++◌, length, slice_index, ap, ◌∙◌, arith}
use Rattle.std.proofs.lemmas.Result.{err_from_is_err_and, on_ok_weaker, IfErr-weaker}
use Rattle.hm_base.specs.Program.{Program}
use Rattle.hm_history.specs.declared.Entry.{Entry}
use Rattle.hm_script.specs.Spelling.{text}
use Rattle.hm_report.specs.Counted.{counted}
use Rattle.hm_report.specs.Ends.{AreCounted}
use Rattle.hm_report.specs.Report.{history_line, entry_lines, unfinished_lines}
use Rattle.hm_report.proofs.Lines.{unfinished_same}
use Rattle.hm_report.proofs.Whole.{first_lines, stops_in_lines, stops_in_unfinished, report_sends, stops_at_end}
use Rattle.hm_report.proofs.report.write_lines.Goals as goal

first_is : (c : Program) (h : List Entry) (words : List ℕ) (es : List Entry) → words ≡ text c → es ≡ h → words ++ (history_line ++ entry_lines 0 es) ≡ first_lines c h
first_is c h words es same all = ap (λ z. z ++ (history_line ++ entry_lines 0 es)) same ∙ ap (λ xs. text c ++ (history_line ++ entry_lines 0 xs)) all

ended_is : (c : Program) (h : List Entry) (ended : List ℕ) {es : List Entry} → es ≡ h → AreCounted c es ended → (a : ℕ) → a < 16 → slice_index ended a ≡ counted c h a
ended_is c h ended same are = λ a lt. are.each a lt ∙ ap (λ xs. counted c xs a) same

second_is : (c : Program) (h : List Entry) (ended : List ℕ) → length c.actors ≤ 16 → ((a : ℕ) → a < 16 → slice_index ended a ≡ counted c h a) → unfinished_lines c (λ a. slice_index ended a) ≡ unfinished_lines c (counted c h)
second_is c h ended few each = unfinished_same c (λ a. slice_index ended a) (counted c h) (λ a lt. each a (omega arith))

pub returns-in_err-ended-clause-err : goal.returns-in_err-ended-clause-err
returns-in_err-ended-clause-err g c =
    let p = err_from_is_err_and c.from_residual.result c.from_residual.ensures.1 in
    let script = c.args.script.now in
    let h = c.args.history.now.entries in
    let first = first_is script h c.args.text.now _ c.requires.text c.as_slice.ensures in
    rw (p.1, p.2) (stops_in_lines _ _ script h (counted script h) _ _ (ap (λ z. z ++ (c.args.text.now ++ (history_line ++ entry_lines 0 c.as_slice.result.now))) c.requires.empty ∙ first) c.in_err-ended.ensures.err)

pub put_unfinished-requires-clause-ended : goal.put_unfinished-requires-clause-ended
put_unfinished-requires-clause-ended g c =
    omega (arith, c.in_ok-ended.ensures.ended.len, c.facts.ensures.few_actors)

pub returns-in_err-put_unfinished-clause-err : goal.returns-in_err-put_unfinished-clause-err
returns-in_err-put_unfinished-clause-err g c =
    let p = err_from_is_err_and c.from_residual-in_err-put_unfinished.result c.from_residual-in_err-put_unfinished.ensures.1 in
    let script = c.args.script.now in
    let h = c.args.history.now.entries in
    let first = first_is script h c.args.text.now _ c.requires.text c.as_slice.ensures in
    let second = second_is script h _ c.facts.ensures.few_actors (ended_is script h _ c.as_slice.ensures c.in_ok-ended.ensures.ended) in
    rw (p.1, p.2) (stops_in_unfinished _ _ _ script h (counted script h) c.args.out.now c.put_lines.new.out _ _ _ c.requires.empty first second c.in_ok-ended.ensures.ok c.in_err-put_unfinished.ensures.err)

pub returns-clause-ok : goal.returns-clause-ok
returns-clause-ok g c =
    let script = c.args.script.now in
    let h = c.args.history.now.entries in
    let first = first_is script h c.args.text.now _ c.requires.text c.as_slice.ensures in
    let second = second_is script h _ c.facts.ensures.few_actors (ended_is script h _ c.as_slice.ensures c.in_ok-ended.ensures.ended) in
    on_ok_weaker c.write_end.result
    (λ s. report_sends _ _ _ _ script h (counted script h) c.args.out.now c.put_lines.new.out c.put_unfinished.new.out _ _ c.len-count.result c.requires.empty first second c.len-count.ensures c.in_ok-ended.ensures.ok c.in_ok-put_unfinished.ensures.ok s)
    c.write_end.ensures.ok

pub returns-clause-err : goal.returns-clause-err
returns-clause-err g c =
    let script = c.args.script.now in
    let h = c.args.history.now.entries in
    let first = first_is script h c.args.text.now _ c.requires.text c.as_slice.ensures in
    let second = second_is script h _ c.facts.ensures.few_actors (ended_is script h _ c.as_slice.ensures c.in_ok-ended.ensures.ended) in
    IfErr-weaker c.write_end.result _ _
    (λ why s. stops_at_end _ _ _ _ script h (counted script h) c.args.out.now c.put_lines.new.out c.put_unfinished.new.out _ _ c.len-count.result why c.requires.empty first second c.len-count.ensures c.in_ok-ended.ensures.ok c.in_ok-put_unfinished.ensures.ok s)
    c.write_end.ensures.err
