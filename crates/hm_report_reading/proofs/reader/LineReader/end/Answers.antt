use Rattle.std.proofs.Common.{◌≡◌, ◌++◌, ◌∙◌, List, ℕ, sym, ap}
use Rattle.std.proofs.lemmas.Bool.{false≢true}
use Rattle.std.proofs.lemmas.Slice.Eq.{bytes_eq-Decides}
use Rattle.hm_report.specs.Report.{end_line}
use Rattle.hm_script.specs.Numerals.{number}
use Rattle.hm_script.specs.Splitting.{word}
use Rattle.hm_script.proofs.Steps.{ok_is}
use Rattle.hm_report_reading.proofs.LineAgain.{end_count}
use Rattle.hm_report_reading.proofs.reader.LineReader.end.Goals as goal

pub returns-in_default-number : goal.returns-in_default-number
returns-in_default-number c = λ n small same.
    c.in_default-number.not-Ok n (c.number.ensures ∙ ap number (c.get.ensures ∙ ap (word 1) c.of.ensures) ∙ end_count n c.args.line.now c.in-Some.text.now small c.in-Some.ensures same)

pub returns-else-eq : goal.returns-else-eq
returns-else-eq c = λ n small same.
    let is : c.in-Ok.count ≡ n = ok_is c.in-Ok.count n (sym c.in-Ok.is ∙ c.number.ensures ∙ ap number (c.get.ensures ∙ ap (word 1) c.of.ensures) ∙ end_count n c.args.line.now c.in-Some.text.now small c.in-Some.ensures same) in
    let made : c.as_slice.result.now ≡ end_line c.in-Ok.count = c.as_slice.ensures ∙ c.put_end.ensures.text ∙ ap (λ (x : List ℕ). x ++ end_line c.in-Ok.count) c.clear.ensures in
    false≢true (c.if-eq.ensures ∙ (bytes_eq-Decides c.args.line.now c.as_slice.result.now).1 (same ∙ ap end_line (sym is) ∙ sym made))
