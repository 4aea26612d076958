-- The lines of a report: those of the script, `history`, one of each entry, and the end.
use Rattle.std.proofs.Common.{◌≡◌, ℕ, List, [], ◌∷◌, ◌++◌, refl, ap, ◌∙◌}
use Rattle.std.specs.Prelude.{codes}
use Rattle.hm_base.specs.Program.{Program}
use Rattle.hm_history.specs.declared.Entry.{Entry}
use Rattle.hm_script.specs.Automaton.{lines}
use Rattle.hm_script.specs.Spelling.{text}
use Rattle.hm_report.specs.Report.{entry_lines, history_line, report}
use Rattle.hm_report_front.specs.Heads.{lines_behind}
use Rattle.hm_report_front.specs.Parts.{entry_list}
use Rattle.hm_report_front.proofs.TextLines.{lines_line, lines_text, lines_entries}
use Rattle.hm_check.specs.Parts.{tail_of}

pub report_lines : (c : Program) (h : List Entry) → lines (report c h) ≡ lines_behind c (entry_list 0 h ++ lines (tail_of c h))
report_lines c h =
    lines_text c (history_line ++ (entry_lines 0 h ++ tail_of c h)) ∙ ap (λ (z : List (List ℕ)). lines (text c) ++ z) (lines_line (codes "history" ∷ []) (entry_lines 0 h ++ tail_of c h) refl ∙ ap (λ (z : List (List ℕ)). history_line ∷ z) (lines_entries 0 h (tail_of c h)))
