use Rattle.std.proofs.Common.{◌≡◌, ◌∙◌, ◌++◌, ◌∷◌, [], List, ℕ, arith, length, length-append, sym, ap, subst}
use Rattle.std.specs.List.{All}
use Rattle.std.proofs.lemmas.List.Elements.{All-push}
use Rattle.hm_history.specs.declared.Entry.{Entry}
use Rattle.hm_report.specs.Report.{entry_line, entry_lines}
use Rattle.hm_report_reading.specs.Entries.{IsRead}
use Rattle.hm_report_reading.specs.Fits.{FitsEntry}
use Rattle.hm_report_reading.proofs.LineAgain.{read_more}
use Rattle.hm_report_reading.proofs.entries.read_entries.Goals as goal

pub loop-history-preserved : goal.loop-history-preserved
loop-history-preserved c =
    let es = c.loop-history.history.entries in
    let line = c.cut_line.result.0.now in
    let found : FitsEntry c.in-Some.entry × (line ≡ entry_line c.len-in-loop-history.result c.in-Some.entry) = subst (IsRead c.len-in-loop-history.result line) c.in-Some.is c.in_ok-entry.ensures in
    let more : c.push_reserved.new.self.entries ≡ es ++ c.in-Some.entry ∷ [] = c.push_reserved.ensures.entries ∙ ap (λ (z : List Entry). z ++ c.in-Some.entry ∷ []) c.reserve.ensures.same in
    let read = read_more c.args.bytes.now c.loop-history.rest.now line c.cut_line.result.1.now es c.in-Some.entry c.loop-history.invariant.0 c.cut_line.ensures.lines (found.1 ∙ ap (λ (k : ℕ). entry_line k c.in-Some.entry) c.len-in-loop-history.ensures) in (
      read ∙ ap (λ (z : List Entry). entry_lines 0 z ++ c.cut_line.result.1.now) (sym more),
      omega (arith, ap length more, length-append es (c.in-Some.entry ∷ []), c.len.ensures, c.if-len-lt-MOST_ENTRIES.true),
      subst (All FitsEntry) (sym more) (All-push FitsEntry es c.in-Some.entry c.loop-history.invariant.2 found.0),
    )
