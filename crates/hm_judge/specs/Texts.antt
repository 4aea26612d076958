-- The text of a judgement.
use Rattle.std.specs.Prelude.{ℕ, Bool, if◌then◌else◌, Option, Some, None, List, [], ◌∷◌, ◌++◌, length, codes}
use Rattle.std.specs.Fmt.{decimal}
use Rattle.hm_history.specs.declared.Entry.{Entry}
use Rattle.hm_history.specs.declared.Progress.{Progress}
use Rattle.hm_report.specs.Line.{spaced}
use Rattle.hm_report.specs.Report.{entry_line}
use Rattle.hm_report.specs.Words.{head_words, mirror_text, tail_text}
use Rattle.hm_script.specs.Reasons.{refused_text}
use Rattle.hm_parts.specs.declared.parts.Parts.{Parts}
use Rattle.hm_parts.specs.declared.shown.Shown.{Shown}
use Rattle.hm_parts.specs.declared.shown.ShownParts.{ShownParts}
use Rattle.hm_judge.specs.Standing.{standing_lines}
use Rattle.hm_judge.specs.declared.asked.Asked.{Asked}
use Rattle.hm_judge.specs.declared.judgement.BadReport.{BadReport}
use Rattle.hm_judge.specs.declared.judgement.Fault.{Fault}
use Rattle.hm_judge.specs.declared.judgement.Judgement.{Judgement}
use Rattle.hm_judge.specs.declared.judgement.LegalReport.{LegalReport}

-- the line on a legal report, with the number of its entries
abbrev pub legal_line : ℕ → List ℕ
legal_line n = codes "legal " ++ (decimal n ++ 10 ∷ [])

-- the first line on anything else, with the number of the first bad line
abbrev pub bad_line : ℕ → List ℕ
bad_line n = codes "bad " ++ (decimal n ++ 10 ∷ [])

-- that a mirror's table has nothing for a page
unfoldable pub unset_text : ℕ → ℕ → List ℕ
unset_text m v = codes "unset " ++ (mirror_text m ++ (32 ∷ decimal v))

-- the line that shows why a part is broken: in the words of an entry, what is so there; or that a mirror's table has
-- nothing for a page
abbrev pub shown_line : Option Shown → List ℕ
shown_line None = []
shown_line (Some (Shown.Words k)) = codes "shows" ++ (spaced (head_words k) ++ (tail_text k ++ 10 ∷ []))
shown_line (Some (Shown.Unset m v)) = codes "shows " ++ (unset_text m v ++ 10 ∷ [])

-- the line of a part that is broken, and what shows it; nothing of one that is met
unfoldable pub breaks : Bool → List ℕ → Option Shown → List ℕ
breaks met line shown = if met then [] else line ++ shown_line shown

-- those lines for each of the first parts, in their order
unfoldable pub first_parts_text : Parts → ShownParts → List ℕ
first_parts_text x y =
    breaks x.answers (codes "breaks answers\n") y.answers
    ++ (breaks x.places (codes "breaks places\n") y.places
    ++ (breaks x.frames (codes "breaks frames\n") y.frames
    ++ breaks x.sequences (codes "breaks sequences\n") y.sequences))

-- those lines for each of the others, in their order
unfoldable pub last_parts_text : Parts → ShownParts → List ℕ
last_parts_text x y =
    breaks x.untold (codes "breaks untold\n") y.untold
    ++ (breaks x.guarded (codes "breaks guarded\n") y.guarded ++ breaks x.kept (codes "breaks kept\n") y.kept)

-- the line of an entry that is not due, and those of each part that it breaks
unfoldable pub wrong_text : ℕ → Entry → Parts → ShownParts → List ℕ
wrong_text at e x y =
    codes "entry " ++ (entry_line at e ++ (codes "breaks due\n" ++ (first_parts_text x y ++ last_parts_text x y)))

-- what is wrong, if the next entry has this position
abbrev pub fault_text : ℕ → Fault → List ℕ
fault_text at (Fault.Script r) = refused_text r ++ 10 ∷ []
fault_text at (Fault.Entry e x y) = wrong_text at e x y
fault_text at Fault.Full = codes "full\n"
fault_text at Fault.NoEntry = codes "text\n"
fault_text at Fault.Behind = codes "behind\n"
fault_text at Fault.Missing = codes "missing\n"

-- a line after a word; none if no line is there
abbrev pub line_text : List ℕ → List ℕ → List ℕ
line_text word [] = []
line_text word (b ∷ bytes) = word ++ (b ∷ bytes)

-- the lines on bytes that are no legal report
unfoldable pub bad_text : BadReport → List ℕ
bad_text b =
    bad_line b.line
    ++ (fault_text b.at b.fault
    ++ (line_text (codes "nearest ") b.nearest
    ++ (standing_lines b.at 0 b.standing.items ++ line_text (codes "ends ") b.ending)))

-- the lines of all actors after a history of this length, if they are asked for
abbrev pub asked_lines : Asked → ℕ → List Progress → List ℕ
asked_lines Asked.Verdict at ps = []
asked_lines Asked.All at ps = []
asked_lines Asked.Standing at ps = standing_lines at 0 ps

-- the lines on a legal report
abbrev pub legal_text : Asked → LegalReport → List ℕ
legal_text asked l = let n = length l.report.history.entries in legal_line n ++ asked_lines asked n l.standing.items

-- all that is written of a judgement, if this is asked for
abbrev pub judgement_text : Asked → Judgement → List ℕ
judgement_text asked (Judgement.Legal l) = legal_text asked l
judgement_text asked (Judgement.Bad b) = bad_text b
