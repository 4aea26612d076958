-- What a judgement on a report says.
use Rattle.std.specs.Prelude.{◌≡◌, ◌⊎◌, ℕ, zero, suc, ◌+◌, ◌-◌, ◌≤◌, List, [], ◌∷◌, ◌++◌, length, map, take, slice_get}
use Rattle.std.specs.Prelude.{Option, Some, None, Err}
use Rattle.hm_base.specs.Program.{Program, IsScript}
use Rattle.hm_history.specs.Kernel.Due.{due}
use Rattle.hm_history.specs.Laws.{DueFrom}
use Rattle.hm_history.specs.Kernel.Run.{actors_of}
use Rattle.hm_history.specs.declared.Entry.{Entry}
use Rattle.hm_history.specs.declared.Progress.{Progress}
use Rattle.hm_report.specs.Report.{entry_line, history_line}
use Rattle.hm_report_front.specs.Heads.{IsBadHead, lines_behind}
use Rattle.hm_report_front.specs.Parts.{Differ, entry_list}
use Rattle.hm_report_reading.specs.Entries.{IsRead}
use Rattle.hm_report_reading.specs.Fits.{FitsEntry}
use Rattle.hm_edge.specs.Reading.{IsTextOf}
use Rattle.hm_script.specs.Automaton.{lines, reading}
use Rattle.hm_script.specs.Built.{every_word}
use Rattle.hm_script.specs.Spelling.{text}
use Rattle.hm_check.specs.Parts.{tail_of}
use Rattle.hm_check.specs.declared.verdict.Verdict.{Verdict}
use Rattle.hm_check.specs.declared.verdict.Verdict.TheVariants.{Yes, No}
use Rattle.hm_parts.specs.Parts.{AreParts}
use Rattle.hm_parts.specs.Shown.{AreShown}
use Rattle.hm_parts.specs.declared.parts.Parts.{Parts}
use Rattle.hm_parts.specs.declared.shown.ShownParts.{ShownParts}
use Rattle.hm_judge.specs.Nearest.{IsNearest, could_stand}
use Rattle.hm_judge.specs.declared.behind.Found.{Found}
use Rattle.hm_judge.specs.declared.judgement.BadReport.{BadReport}
use Rattle.hm_judge.specs.declared.judgement.Fault.{Fault}
use Rattle.hm_judge.specs.declared.judgement.Judgement.{Judgement}
use Rattle.hm_judge.specs.declared.judgement.LegalReport.{LegalReport}

-- ---- the verdict

-- the verdict that a judgement comes to
abbrev pub verdict_of : Judgement → Verdict
verdict_of (Judgement.Legal l) = Yes l.report
verdict_of (Judgement.Bad b) = No b.line

-- ---- what was read before the bad line

-- the bytes have the lines of a script, `history`, these entries, of which each was due after those before it, and then
-- these lines
pub record ReadsUpTo (bytes : List ℕ) (c : Program) (h : List Entry) (ls : List (List ℕ)) : Type 0 where
  pub script : IsScript c
  pub dues : DueFrom c [] h
  pub few : length h ≤ 2000000
  pub lines_are : lines bytes ≡ lines_behind c (entry_list 0 h ++ ls)

-- ---- what is wrong with it

-- the line is that of this entry, which is not due; these are the parts that it meets, and this bears on them
pub record IsWrongEntry (c : Program) (h : List Entry) (l : List ℕ) (e : Entry) (x : Parts)
    (y : ShownParts) : Type 0 where
  pub fits : FitsEntry e
  pub line_is : l ≡ entry_line (length h) e
  pub not_due : due c h e.actor ≡ Progress.Did e → ⊥
  pub parts : AreParts c h e x
  pub shown : AreShown c h e y

-- what is wrong with the first line after the entries
abbrev pub IsLineFault : Program → List Entry → List ℕ → Fault → Type 0
IsLineFault c h l (Fault.Entry e x y) = IsWrongEntry c h l e x y
IsLineFault c h l Fault.Full = length h ≡ 2000000
IsLineFault c h l Fault.NoEntry = IsRead (length h) l None
IsLineFault c h l (Fault.Script r) = ⊥
IsLineFault c h l Fault.Behind = ⊥
IsLineFault c h l Fault.Missing = ⊥

-- what is wrong with the line at a place among those after the entries, if those before it end the report
abbrev pub IsFault : Program → List Entry → ℕ → Option (List ℕ) → Fault → Type 0
IsFault c h n None fault = fault ≡ Fault.Missing
IsFault c h zero (Some l) fault = IsLineFault c h l fault
IsFault c h (suc n) (Some l) fault = fault ≡ Fault.Behind

-- the line at a place; nothing if there is none
abbrev pub line_or_none : List (List ℕ) → ℕ → List ℕ
line_or_none ls n = elim (slice_get ls n) [ None ↦ [] | Some l ↦ l ]

-- if the line is that of no entry, the nearest of the lines that could stand there; else nothing
abbrev pub IsNear : Fault → List ℕ → List (List ℕ) → List ℕ → Type 0
IsNear Fault.NoEntry l ks t = IsNearest l ks t
IsNear _ l ks t = t ≡ []

-- what is said of a bad line after these entries, if the first line after the script has this number, these lines
-- follow the entries, and as many of them as this end the report
pub record IsBadThere (c : Program) (h : List Entry) (first : ℕ) (ls : List (List ℕ)) (n : ℕ)
    (b : BadReport) : Type 0 where
  pub line : b.line ≡ first + length h + n
  pub at : b.at ≡ length h
  pub fault : IsFault c h n (slice_get ls n) b.fault
  pub nearest : IsNear b.fault (line_or_none ls n) (could_stand b.at b.standing.items b.ending) b.nearest
  pub standing : b.standing.items ≡ map (due c h) (actors_of c)
  pub ending : b.ending ≡ line_or_none (lines (tail_of c h)) n

-- what is said of the lines after these entries, of which some are there and not all
pub record IsBadAt (c : Program) (h : List Entry) (first : ℕ) (rest : List ℕ) (b : BadReport) : Type 0 where
  pub same : ℕ
  pub differ : Differ (lines (tail_of c h)) (lines rest) same
  pub said : IsBadThere c h first (lines rest) same b

-- the report is that of this script and this history, and this is due after it
pub record IsLegalOf (c : Program) (h : List Entry) (l : LegalReport) : Type 0 where
  pub script : l.report.script ≡ c
  pub history : l.report.history.entries ≡ h
  pub standing : l.standing.items ≡ map (due c h) (actors_of c)

-- the lines after these entries end the report, which is theirs
pub record IsLegalAt (c : Program) (h : List Entry) (rest : List ℕ) (l : LegalReport) : Type 0 where
  pub said : IsLegalOf c h l
  pub ends : tail_of c h ≡ rest

-- what is said of them
abbrev pub IsJudgementAt : Program → List Entry → ℕ → List ℕ → Judgement → Type 0
IsJudgementAt c h first rest (Judgement.Legal l) = IsLegalAt c h rest l
IsJudgementAt c h first rest (Judgement.Bad b) = IsBadAt c h first rest b

-- what is found of them: what is due to each actor if they end the report, and else what is said of them
abbrev pub IsFound : Program → List Entry → ℕ → List ℕ → Found → Type 0
IsFound c h first rest (Found.Legal dues) = (dues.items ≡ map (due c h) (actors_of c)) × (tail_of c h ≡ rest)
IsFound c h first rest (Found.Bad b) = IsBadAt c h first rest b

-- ---- the bad line

-- what is wrong with bytes that do not begin with a script and `history`: the reason for which they are not read as a
-- script; or they are one, and `history` is missing
abbrev pub IsHeadFault : List ℕ → Fault → Type 0
IsHeadFault bytes (Fault.Script r) = reading every_word bytes ≡ Err r
IsHeadFault bytes Fault.Missing = (c : Program) × IsTextOf c bytes
IsHeadFault bytes _ = ⊥

-- the reason is that of this line
abbrev pub IsAtLine : ℕ → Fault → Type 0
IsAtLine n (Fault.Script r) = r.line ≡ n
IsAtLine n _ = Unit {0}

-- the lines are those of a script
pub record AreScript (ls : List (List ℕ)) (c : Program) : Type 0 where
  pub script : IsScript c
  pub lines_are : lines (text c) ≡ ls

-- `history` if these lines are those of a script, and else nothing
abbrev pub IsHeadEnding : List (List ℕ) → List ℕ → Type 0
IsHeadEnding ls [] = (c : Program) → AreScript ls c → ⊥
IsHeadEnding ls (b ∷ l) = (b ∷ l ≡ history_line) × ((c : Program) × AreScript ls c)

-- the line is no line of a script, and not `history` after one
pub record HasBadHead (bytes : List ℕ) (b : BadReport) : Type 0 where
  pub head : IsBadHead bytes b.line
  pub fault : IsHeadFault bytes b.fault
  pub at_line : IsAtLine b.line b.fault
  pub nearest : b.nearest ≡ []
  pub standing : b.standing.items ≡ []
  pub ending : IsHeadEnding (take (b.line - 1) (lines bytes)) b.ending

-- a script and entries were read before the line, what is wrong with it, and what was due there to each actor
pub record IsBadAfter (bytes : List ℕ) (b : BadReport) : Type 0 where
  pub script : Program
  pub history : List Entry
  pub left : List (List ℕ)
  pub same : ℕ
  pub read : ReadsUpTo bytes script history left
  pub differ : Differ (lines (tail_of script history)) left same
  pub said : IsBadThere script history (length (lines (text script)) + 2) left same b

-- what is said to be due to each actor of the script is due to it after the history
abbrev pub StandsRight : LegalReport → Type 0
StandsRight l =
    l.standing.items ≡ map (due l.report.script l.report.history.entries) (actors_of l.report.script)

-- what is said of bytes holds of them, beside the verdict
abbrev pub IsTold : List ℕ → Judgement → Type 0
IsTold bytes (Judgement.Legal l) = StandsRight l
IsTold bytes (Judgement.Bad b) = HasBadHead bytes b ⊎ IsBadAfter bytes b
