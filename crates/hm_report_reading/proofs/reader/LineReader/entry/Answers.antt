use Rattle.std.proofs.Common.{◌∙◌, sym, refl}
use Rattle.std.proofs.lemmas.Bool.{false≢true}
use Rattle.hm_script.specs.Splitting.{split}
use Rattle.hm_report_reading.proofs.InRange.{is_entry}
use Rattle.hm_report_reading.proofs.LineAgain.{none_found, other_found}
use Rattle.hm_report_reading.proofs.reader.LineReader.entry.Goals as goal

pub returns-in_default-2 : goal.returns-in_default-2
returns-in_default-2 c = none_found c.args.at c.args.line.now c.in-Some.text.now c.in_ok-entry.field-0 c.ranges.at.fits c.in-Some.ensures c.in_ok-entry.ensures c.in_default-2.not-Ok

pub returns-then-is_line_of : goal.returns-then-is_line_of
returns-then-is_line_of c =
    (is_entry (split c.in-Some.text.now) c.in-Ok.entry (sym c.in_ok-entry.ensures ∙ c.in-Ok.is), c.if-is_line_of.ensures.0 refl)

pub returns-else-is_line_of : goal.returns-else-is_line_of
returns-else-is_line_of c =
    other_found c.args.at c.args.line.now c.in-Some.text.now c.in-Ok.entry c.ranges.at.fits c.in-Some.ensures (sym c.in-Ok.is ∙ c.in_ok-entry.ensures)
    (λ same. false≢true (c.if-is_line_of.ensures.1 same))
