-- The theorem of the program hmmjudge: what its user is told.
use Rattle.std.specs.Prelude.{◌≡◌, ◌⊎◌, ℕ, ◌+◌, ◌-◌, ◌<◌, ◌≤◌, List, [], ◌++◌, length, map, take, slice_get, Option}
use Rattle.std.specs.Prelude.{Some, None}
use Rattle.hm_base.specs.Program.{Program, IsScript}
use Rattle.hm_check.specs.Judged.{IsYes, Judged}
use Rattle.hm_check.specs.Judging.{IsLegalReportOf, IsSound}
use Rattle.hm_check.specs.Parts.{tail_of}
use Rattle.hm_edge.specs.Exits.{Arguments, Exits}
use Rattle.hm_edge.specs.Traffic.{Traffic}
use Rattle.hm_edge.specs.Users.{CutShort, EndsSo, GoesOut, IsDoneOrShort, IsStarted, NothingOut, ToldUsage}
use Rattle.hm_edge.specs.declared.status.Status.{Status}
use Rattle.hm_history.specs.Kernel.Due.{due}
use Rattle.hm_history.specs.Kernel.Run.{actors_of}
use Rattle.hm_history.specs.Laws.{DueFrom}
use Rattle.hm_history.specs.declared.Entry.{Entry}
use Rattle.hm_history.specs.declared.Progress.{Progress}
use Rattle.hm_io.specs.Streams.{SinkState}
use Rattle.hm_parts.specs.Parts.{AreParts}
use Rattle.hm_parts.specs.Rules.{rules_from}
use Rattle.hm_parts.specs.Shown.{AreShown}
use Rattle.hm_parts.specs.declared.parts.Parts.{Parts}
use Rattle.hm_parts.specs.declared.shown.ShownParts.{ShownParts}
use Rattle.hm_report.specs.Report.{entry_line}
use Rattle.hm_report_front.specs.Heads.{IsBadHead, lines_behind}
use Rattle.hm_report_front.specs.Parts.{Differ, entry_list}
use Rattle.hm_report_reading.specs.Fits.{FitsEntry}
use Rattle.hm_report_reading.specs.Texts.{HasText, text_of}
use Rattle.hm_report_reading.specs.declared.reader.Unfinished.{Unfinished}
use Rattle.hm_script.specs.Automaton.{lines}
use Rattle.hm_script.specs.Spelling.{text}
use Rattle.hm_judge.specs.Asked.{asked_of}
use Rattle.hm_judge.specs.Judgements.{IsAtLine, IsFault, IsHeadEnding, IsHeadFault, IsLineFault, IsNear, line_or_none}
use Rattle.hm_judge.specs.Judgements.{verdict_of}
use Rattle.hm_judge.specs.Judging.{EndsAs}
use Rattle.hm_judge.specs.Later.{IsFollowedOn, IsLater}
use Rattle.hm_judge.specs.LaterTexts.{answer_text}
use Rattle.hm_judge.specs.Nearest.{could_stand}
use Rattle.hm_judge.specs.Runs.{Runs, name, usage}
use Rattle.hm_judge.specs.declared.answer.Answer.{Answer}
use Rattle.hm_judge.specs.declared.asked.Asked.{Asked}
use Rattle.hm_judge.specs.declared.followed.Followed.{Followed}
use Rattle.hm_judge.specs.declared.followed.Later.{Later}
use Rattle.hm_judge.specs.declared.judgement.BadReport.{BadReport}
use Rattle.hm_judge.specs.declared.judgement.Fault.{Fault}
use Rattle.hm_judge.specs.declared.judgement.Judgement.{Judgement}

-- ---- the bad line

-- It is no line of a script, and not `history` after one.
pub record ToldOfHead (bytes : List ℕ) (b : BadReport) : Type 0 where
  pub head : IsBadHead bytes b.line
  pub fault : IsHeadFault bytes b.fault
  pub at_line : IsAtLine b.line b.fault
  pub nearest : b.nearest ≡ []
  pub standing : b.standing.items ≡ []
  pub ending : IsHeadEnding (take (b.line - 1) (lines bytes)) b.ending

-- It is that of this entry, which is not due after these; these are all parts of legality, each with whether the entry
-- meets it, and this bears on them.
pub record ToldOfEntry (c : Program) (h : List Entry) (l : List ℕ) (e : Entry) (x : Parts) (y : ShownParts) : Type 0
  where
    pub fits : FitsEntry e
    pub line_is : l ≡ entry_line (length h) e
    pub not_due : due c h e.actor ≡ Progress.Did e → ⊥
    pub parts : AreParts c h e x
    pub shown : AreShown c h e y

-- A script and entries that were due were read before it. What is wrong with it, what was due to each actor in its
-- place, the nearest of the lines that could stand there, and the line that goes on to end the report.
pub record ToldOfLine (bytes : List ℕ) (b : BadReport) : Type 0 where
  pub script : Program
  pub history : List Entry
  pub left : List (List ℕ)
  pub in_range : IsScript script
  pub dues : DueFrom script [] history
  pub few : length history ≤ 2000000
  pub lines_are : lines bytes ≡ lines_behind script (entry_list 0 history ++ left)
  pub same : ℕ
  pub differ : Differ (lines (tail_of script history)) left same
  pub line : b.line ≡ length (lines (text script)) + 2 + length history + same
  pub at : b.at ≡ length history
  pub fault : IsFault script history same (slice_get left same) b.fault
  pub entry : (l : List ℕ) (e : Entry) (x : Parts) (y : ShownParts) → IsLineFault script history l (Fault.Entry e x y)
      → ToldOfEntry script history l e x y
  pub nearest : IsNear b.fault (line_or_none left same) (could_stand b.at b.standing.items b.ending) b.nearest
  pub standing : b.standing.items ≡ map (due script history) (actors_of script)
  pub ending : b.ending ≡ line_or_none (lines (tail_of script history)) same

-- what is said of bytes beside the verdict: of a legal report what is due to each actor at its end
abbrev pub ToldOf : List ℕ → Judgement → Type 0
ToldOf bytes (Judgement.Legal l) =
    l.standing.items ≡ map (due l.report.script l.report.history.entries) (actors_of l.report.script)
ToldOf bytes (Judgement.Bad b) = ToldOfHead bytes b ⊎ ToldOfLine bytes b

-- what is said of the entries of the bytes: they are the text of a report with these, each of which keeps these rules
-- after those before it
pub record ToldOfLater (bytes : List ℕ) (f : Followed) : Type 0 where
  pub script : Program
  pub unfinished : List Unfinished
  pub has : HasText script f.history.entries unfinished
  pub text_is : bytes ≡ text_of script f.history.entries unfinished
  pub first : f.first ≡ length (lines (text script)) + 2
  pub rules : f.rules.items ≡ rules_from script [] f.history.entries

-- ---- an answer

-- What is right of an answer on these bytes.
pub record IsRight (asked : Asked) (bytes : List ℕ) (a : Answer) : Type 0 where
  -- The bytes are the legal report that is found, or the line that is named is their first bad one.
  pub verdict : Judged bytes (verdict_of a.judgement)
  -- If they are the legal report of a script and a history, these are found, and no bad line is named.
  pub only : (c : Program) (h : List Entry) → IsLegalReportOf c h bytes → IsYes c h (verdict_of a.judgement)
  -- The parts that the bad line breaks, what was due to each actor in its place, and all else that is said of it.
  pub told : ToldOf bytes a.judgement
  -- What is said of the lines after it, if that is asked for.
  pub later : IsLater asked a.judgement bytes a.later
  pub followed : (f : Followed) → IsFollowedOn bytes (Later.Read f) → ToldOfLater bytes f

-- The bytes were judged, and what is told of that went out. The call ends as the judgement says.
pub record TellsJudgement (asked : Asked) (bytes held : List ℕ) (io : Traffic) (status : Status) : Type 0 where
  pub answer : Answer
  pub is : IsRight asked bytes answer
  pub sound : IsSound (verdict_of answer.judgement)
  pub ends : EndsAs answer.judgement status
  pub out : GoesOut held (answer_text asked answer) io

-- the text tells of a judgement on these bytes
abbrev pub IsOfJudgement : Asked → List ℕ → List ℕ → Type 0
IsOfJudgement asked bytes t = (a : Answer) × IsRight asked bytes a × (t ≡ answer_text asked a)

-- by how it ends; it ends in no other way
abbrev pub ToldJudgement : Asked → List ℕ → List ℕ → Traffic → Status → Type 0
ToldJudgement asked bytes held io Status.Done = TellsJudgement asked bytes held io Status.Done
ToldJudgement asked bytes held io (Status.NotLegal n) = TellsJudgement asked bytes held io (Status.NotLegal n)
ToldJudgement asked bytes held io Status.ReportTooLong = (268435456 < length bytes) × NothingOut held io
ToldJudgement asked bytes held io Status.NoMemory = CutShort (IsOfJudgement asked bytes) held io
ToldJudgement asked bytes held io status = ⊥

-- a report is judged, as it is asked for
pub record ToldJudging (asked : Asked) (bytes held : List ℕ) (io : Traffic) (status : Status) : Type 0 where
  pub told : ToldJudgement asked bytes held io status
  -- A legal report is found to be one, unless memory runs out.
  pub sure : length bytes ≤ 268435456 → (c : Program) (h : List Entry) → IsLegalReportOf c h bytes
      → IsDoneOrShort status

-- by what the words ask for; if they are none of the forms, nothing is read or written
abbrev pub ToldBy : Option Asked → List ℕ → List ℕ → Traffic → Status → Type 0
ToldBy None bytes held io status = ToldUsage io status
ToldBy (Some asked) bytes held io status = ToldJudging asked bytes held io status

-- Whoever starts the program with words after its name, an input and an output that do not fail, is told this.
abbrev pub Theorem : Type 0
Theorem = (words : List (List ℕ)) (bytes held : List ℕ) (args : Arguments) (io : Traffic)
    (errors errors_after : SinkState) (code : ℕ) → IsStarted words bytes held args io
    → Exits Runs name usage args io errors errors_after code
    → EndsSo (ToldBy (asked_of words) bytes held io) name usage errors errors_after code
