-- What a call comes to: what was read, and what is written of it.
use Rattle.std.specs.Prelude.{◌≡◌, ◌⊎◌, ℕ, ◌+◌, ◌≤◌, List, ◌∷◌, ◌++◌, length, IfSome}
use Rattle.hm_base.specs.Program.{Program}
use Rattle.hm_check.specs.Judged.{Judged, IsYes}
use Rattle.hm_check.specs.Judging.{IsLegalReportOf, IsSound}
use Rattle.hm_edge.specs.Input.{CameWhole, LeftOver}
use Rattle.hm_edge.specs.Reading.{ReadFaulted}
use Rattle.hm_edge.specs.Traffic.{Traffic}
use Rattle.hm_edge.specs.Writing.{HasWritten, IsFlushed, WriteFaulted}
use Rattle.hm_edge.specs.declared.status.Status.{Status}
use Rattle.hm_history.specs.declared.Entry.{Entry}
use Rattle.hm_io.specs.Streams.{Rose, SourceState}
use Rattle.hm_report.specs.Report.{history_line}
use Rattle.hm_script.specs.Automaton.{lines}
use Rattle.hm_script.specs.Spelling.{text}
use Rattle.hm_report.specs.declared.written.Written.{Written}
use Rattle.hm_judge.specs.Judgements.{IsTold, verdict_of}
use Rattle.hm_judge.specs.Later.{IsLater}
use Rattle.hm_judge.specs.LaterTexts.{answer_text}
use Rattle.hm_judge.specs.declared.answer.Answer.{Answer}
use Rattle.hm_judge.specs.declared.asked.Asked.{Asked}
use Rattle.hm_judge.specs.declared.judgement.Judgement.{Judgement}

-- the judgement is the verdict on these bytes, and what it says of them beside that holds
pub record IsJudgementOn (bytes : List ℕ) (j : Judgement) : Type 0 where
  pub judged : Judged bytes (verdict_of j)
  pub told : IsTold bytes j
  pub only : (c : Program) (h : List Entry) → IsLegalReportOf c h bytes → IsYes c h (verdict_of j)

-- it is that on any bytes that have the script's lines, the line `history`, and then the lines of these, the first of
-- which has this number
abbrev pub IsJudgementBehind : Program → ℕ → List ℕ → Judgement → Type 0
IsJudgementBehind c first bytes j = (whole : List ℕ) → lines whole ≡ lines (text c) ++ history_line ∷ lines bytes
    → first ≡ length (lines (text c)) + 2 → IsJudgementOn whole j

-- the judgement is that on these bytes, and what is said of the later entries holds, if it is asked for
pub record IsAnswerOn (asked : Asked) (bytes : List ℕ) (a : Answer) : Type 0 where
  pub judgement : IsJudgementOn bytes a.judgement
  pub later : IsLater asked a.judgement bytes a.later

-- all that was left in the source came, and this is what is said of it
pub record IsAnswerFrom (asked : Asked) (before after : SourceState) (a : Answer) : Type 0 where
  pub bytes : List ℕ
  pub short : length bytes ≤ 268435456
  pub whole : CameWhole before.left after.left bytes
  pub answer : IsAnswerOn asked bytes a

-- the report is legal
abbrev pub IsLegal : Judgement → Type 0
IsLegal (Judgement.Legal l) = Unit {0}
IsLegal (Judgement.Bad b) = ⊥

-- this is the first bad line
abbrev pub IsBadLine : ℕ → Judgement → Type 0
IsBadLine n (Judgement.Legal l) = ⊥
IsBadLine n (Judgement.Bad b) = n ≡ b.line

-- the call ends as the judgement says, or its text did not go out
abbrev pub EndsAs : Judgement → Status → Type 0
EndsAs j Status.Done = IsLegal j
EndsAs j (Status.NotLegal n) = IsBadLine n j
EndsAs j Status.WriteFault = Unit {0}
EndsAs j Status.NoMemory = Unit {0}
EndsAs j _ = ⊥

-- how a call ends whose text was written so
abbrev pub ending_of : Judgement → Written → Status
ending_of j Written.Fault = Status.WriteFault
ending_of j Written.NoMemory = Status.NoMemory
ending_of (Judgement.Legal l) Written.Done = Status.Done
ending_of (Judgement.Bad b) Written.Done = Status.NotLegal b.line

-- what was read was judged as it is asked for, and this was written of it
pub record Told (asked : Asked) (io : Traffic) (status : Status) : Type 0 where
  pub answer : Answer
  pub sound : IsSound (verdict_of answer.judgement)
  pub read : IfSome io.source.left (λ bytes. IsAnswerOn asked bytes answer)
  pub ends : EndsAs answer.judgement status
  pub written :
      HasWritten (answer_text asked answer) (λ t. t ≡ answer_text asked answer) io.sink io.sink_after status

-- what was read and written, by how the call ends
abbrev pub HasTold : Asked → Traffic → Status → Type 0
HasTold asked io Status.Done = Told asked io Status.Done
HasTold asked io (Status.NotLegal n) = Told asked io (Status.NotLegal n)
HasTold asked io Status.WriteFault = Told asked io Status.WriteFault
HasTold asked io Status.NoMemory = (io.sink_after ≡ io.sink) ⊎ Told asked io Status.NoMemory
HasTold asked io Status.ReportTooLong = LeftOver io.source.left 268435456 × (io.sink_after ≡ io.sink)
HasTold asked io Status.ReadFault = io.sink_after ≡ io.sink
HasTold asked io _ = ⊥

-- the report of this script and this history was found to be legal, or its text did not go out
abbrev pub Finds : Status → Type 0
Finds Status.Done = Unit {0}
Finds Status.WriteFault = Unit {0}
Finds Status.NoMemory = Unit {0}
Finds _ = ⊥

-- a report is read, and the judgement on it is written, as it is asked for
pub record Judges (asked : Asked) (io : Traffic) (status : Status) : Type 0 where
  pub told : HasTold asked io status
  pub read_faults : ReadFaulted io.source.faults io.source_after.faults status
  pub write_faults : WriteFaulted io.sink.faults io.sink_after.faults status
  -- If the text went out whole, the sink sent all of it on.
  pub flushed : IsFlushed io.sink_after.pending status
  -- If the source counted no fault, and had no more bytes than the limit, and they are a legal report, it is found to
  -- be one.
  pub finds : (Rose io.source.faults io.source_after.faults → ⊥)
      → IfSome io.source.left (λ bytes. length bytes ≤ 268435456
      → (c : Program) (h : List Entry) → IsLegalReportOf c h bytes → Finds status)
