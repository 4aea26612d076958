-- What a verdict says.
use Rattle.std.specs.Prelude.{◌≡◌, ℕ, ◌+◌, List, ◌∷◌, ◌++◌, length}
use Rattle.hm_base.specs.Program.{Program}
use Rattle.hm_history.specs.declared.Entry.{Entry}
use Rattle.hm_report.specs.Report.{history_line, report}
use Rattle.hm_script.specs.Automaton.{lines}
use Rattle.hm_script.specs.Spelling.{text}
use Rattle.hm_check.specs.declared.verdict.Verdict.{Verdict}
use Rattle.hm_check.specs.declared.verdict.Verdict.TheVariants.{Yes, No}
use Rattle.hm_check.specs.FirstBad.{IsLegalReport, IsFirstBad}

-- the bytes are this legal report, or this line is the first bad one
abbrev pub Judged : List ℕ → Verdict → Type 0
Judged bytes (Yes r) = IsLegalReport r.script r.history.entries × (bytes ≡ report r.script r.history.entries)
Judged bytes (No n) = IsFirstBad bytes n

-- the verdict is this script with this history
abbrev pub IsYes : Program → List Entry → Verdict → Type 0
IsYes c h (Yes r) = (r.script ≡ c) × (r.history.entries ≡ h)
IsYes c h (No n) = ⊥

-- the verdict on any bytes that have the script's lines, the line `history`, and then the lines of these, the first of
-- which has this number
abbrev pub JudgedBehind : Program → ℕ → List ℕ → Verdict → Type 0
JudgedBehind c first bytes v = (whole : List ℕ) → lines whole ≡ lines (text c) ++ history_line ∷ lines bytes
    → first ≡ length (lines (text c)) + 2 → Judged whole v
