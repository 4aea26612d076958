-- The text of what is said of the entries after a first bad line.
use Rattle.std.specs.Prelude.{ℕ, ◌+◌, ◌-◌, Bool, false, not, ◌||◌, nat_le, if◌then◌else◌, Some, None, List, [], ◌∷◌}
use Rattle.std.specs.Prelude.{◌++◌, length, codes, slice_get}
use Rattle.std.specs.Fmt.{decimal}
use Rattle.hm_history.specs.declared.Entry.{Entry}
use Rattle.hm_report.specs.Report.{entry_line}
use Rattle.hm_parts.specs.Rules.{keeps_all}
use Rattle.hm_parts.specs.declared.rules.Rules.{Rules}
use Rattle.hm_judge.specs.Texts.{breaks, judgement_text}
use Rattle.hm_judge.specs.declared.answer.Answer.{Answer}
use Rattle.hm_judge.specs.declared.asked.Asked.{Asked}
use Rattle.hm_judge.specs.declared.judgement.Judgement.{Judgement}
use Rattle.hm_judge.specs.declared.followed.Followed.{Followed}
use Rattle.hm_judge.specs.declared.followed.Later.{Later}

-- the line of each of the first rules that is broken, in their order
unfoldable pub early_text : Rules → List ℕ
early_text x =
    breaks x.answers (codes "breaks answers\n") None
    ++ (breaks x.places (codes "breaks places\n") None ++ breaks x.frames (codes "breaks frames\n") None)

-- the line of each of the others, in their order
unfoldable pub late_text : Rules → List ℕ
late_text x =
    breaks x.sequences (codes "breaks sequences\n") None
    ++ (breaks x.untold (codes "breaks untold\n") None ++ breaks x.guarded (codes "breaks guarded\n") None)

-- what is said of an entry that breaks a rule, by the number of its line and its position
unfoldable pub also_text : ℕ → ℕ → Entry → Rules → List ℕ
also_text n at e x =
    (codes "also " ++ (decimal n ++ 10 ∷ []))
    ++ (codes "entry " ++ (entry_line at e ++ (early_text x ++ late_text x)))

-- what is said of an entry, by the number of the first entry's line and the position of the first bad one: nothing up
-- to that, and nothing if it keeps all rules
abbrev pub also_line : ℕ → ℕ → ℕ → Entry → Rules → List ℕ
also_line first bad at e x = if nat_le at bad || keeps_all x then [] else also_text (first + at) at e x

-- what is said of entries in a row, the first of which has this position, as far as they were judged
abbrev pub also_lines : ℕ → ℕ → ℕ → List Entry → List Rules → List ℕ
also_lines first bad at [] xs = []
also_lines first bad at (e ∷ es) [] = []
also_lines first bad at (e ∷ es) (x ∷ xs) = also_line first bad at e x ++ also_lines first bad (at + 1) es xs

-- no state follows the last of them
abbrev pub stops : List Rules → Bool
stops xs = elim (slice_get xs (length xs - 1)) [ None ↦ false | Some x ↦ not x.goes_on ]

-- the line at which it stops, and why
abbrev pub stop_line : ℕ → List ℕ → List ℕ
stop_line n why = codes "stops " ++ (decimal n ++ why)

-- the last line: how many entries were judged, or the line of the one that no state follows
abbrev pub last_line : ℕ → List Rules → List ℕ
last_line first xs =
    if stops xs then stop_line (first + (length xs - 1)) (codes " state\n")
    else codes "judged " ++ (decimal (length xs) ++ 10 ∷ [])

-- what is said of entries that were followed
abbrev pub followed_text : ℕ → Followed → List ℕ
followed_text bad f = also_lines f.first bad 0 f.history.entries f.rules.items ++ last_line f.first f.rules.items

-- what is said of the entries after the first bad line
abbrev pub later_text : Judgement → Later → List ℕ
later_text (Judgement.Legal l) x = []
later_text (Judgement.Bad b) Later.Unasked = []
later_text (Judgement.Bad b) (Later.Unread n) = stop_line n (codes " text\n")
later_text (Judgement.Bad b) (Later.Read f) = followed_text b.at f

-- all that is written of an answer
abbrev pub answer_text : Asked → Answer → List ℕ
answer_text asked a = judgement_text asked a.judgement ++ later_text a.judgement a.later
