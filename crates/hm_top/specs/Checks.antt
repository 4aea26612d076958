-- The calls with the words `check` and `why`: a report is read, and what goes out tells the verdict on it.
use Rattle.std.specs.Prelude.{◌≡◌, ◌⊎◌, ℕ, ◌≤◌, List, ◌∷◌, [], ◌++◌, length, Option, Some, None, IfSome, codes}
use Rattle.std.specs.Fmt.{decimal}
use Rattle.hm_base.specs.Program.{Program}
use Rattle.hm_check.specs.FirstBad.{IsFirstBad, IsLegalReport}
use Rattle.hm_check.specs.Judging.{IsLegalReportOf}
use Rattle.hm_history.specs.declared.Entry.{Entry}
use Rattle.hm_io.specs.Streams.{Adds, AddsFront, SinkState, SourceState}
use Rattle.hm_edge.specs.Traffic.{NoFault, Traffic}
use Rattle.hm_edge.specs.Reading.{HasNotJudged, ReadAs, ReadFaulted}
use Rattle.hm_top.specs.Running.{Answered, AnsweredNone}
use Rattle.hm_edge.specs.Writing.{WantedIn, IsFlushed, WriteFaulted}
use Rattle.hm_top.specs.declared.ended.Ended.{Ended}
use Rattle.hm_edge.specs.declared.status.Status.{Status}
use Rattle.hm_why.specs.Loads.{why_text}

-- ---- the two lines

-- the line on a legal report, with the number of its entries
abbrev pub legal_line : ℕ → List ℕ
legal_line n = codes "legal " ++ (decimal n ++ 10 ∷ [])

-- the line on anything else, with the number of the first bad line
abbrev pub bad_line : ℕ → List ℕ
bad_line n = codes "bad " ++ (decimal n ++ 10 ∷ [])

-- ---- what the bytes are

-- they are that of the script and the history in the answer
abbrev pub IsItsReport : Option Program → List Entry → List ℕ → Type 0
IsItsReport script h bytes = Answered (λ c h. IsLegalReportOf c h bytes) script h

-- some line of the bytes is the first bad one
pub record HasBad (bytes : List ℕ) : Type 0 where
  pub line : ℕ
  pub first : IsFirstBad bytes line

-- the bytes are the report in the answer; if the answer has none they have a bad line
abbrev pub IsAsAnswered : Option Program → List Entry → List ℕ → Type 0
IsAsAnswered None h bytes = HasBad bytes
IsAsAnswered (Some c) h bytes = IsLegalReportOf c h bytes

-- ---- by how the call ends

-- what was read
abbrev pub HasJudged : Option Program → List Entry → SourceState → SourceState → Status → Type 0
HasJudged script h before after Status.Done = ReadAs 268435456 (IsItsReport script h) before after
HasJudged script h before after (Status.NotLegal n) =
    ReadAs 268435456 (λ bytes. IsFirstBad bytes n) before after
HasJudged script h before after Status.WriteFault = ReadAs 268435456 (IsAsAnswered script h) before after
HasJudged script h before after status = HasNotJudged before after status

-- what the answer has
abbrev pub HasReport : Option Program → List Entry → Status → Type 0
HasReport script h Status.Done = Answered IsLegalReport script h
HasReport script h Status.WriteFault = Answered IsLegalReport script h ⊎ AnsweredNone script h
HasReport script h _ = AnsweredNone script h

-- the text is what is said of a legal report, which was read
pub record TellsLegal (say : List Entry → List ℕ) (from : SourceState) (t : List ℕ) : Type 0 where
  pub script : Program
  pub history : List Entry
  pub legal : IsLegalReport script history
  pub read : IfSome from.left (IsLegalReportOf script history)
  pub text_is : t ≡ say history

-- the text is the line on bytes whose first bad line it tells
pub record TellsBad (from : SourceState) (t : List ℕ) : Type 0 where
  pub line : ℕ
  pub read : IfSome from.left (λ bytes. IsFirstBad bytes line)
  pub text_is : t ≡ bad_line line

-- one of the two
abbrev pub Tells : (List Entry → List ℕ) → SourceState → List ℕ → Type 0
Tells say from t = TellsLegal say from t ⊎ TellsBad from t

-- a front of such a text was written
pub record WroteFront (Goes : List ℕ → Type 0) (before after : SinkState) : Type 0 where
  pub text : List ℕ
  pub goes : Goes text
  pub front : AddsFront before.held after.held text

-- a front of what is said of the report in the answer; if the answer has none, of the line on the first bad line
abbrev pub WroteFrontFor : (List Entry → List ℕ) → SourceState → Option Program → List Entry → SinkState → SinkState
    → Type 0
WroteFrontFor say from None h before after = WroteFront (TellsBad from) before after
WroteFrontFor say from (Some c) h before after = AddsFront before.held after.held (say h)

-- what was written
abbrev pub HasTold : (List Entry → List ℕ) → SourceState → Option Program → List Entry → SinkState → SinkState → Status
    → Type 0
HasTold say from script h before after Status.Done = Adds before.held after.held (say h)
HasTold say from script h before after (Status.NotLegal n) = Adds before.held after.held (bad_line n)
HasTold say from script h before after Status.WriteFault = WroteFrontFor say from script h before after
HasTold say from script h before after Status.NoMemory =
    (after.held ≡ before.held) ⊎ WantedIn (Tells say from) before after
HasTold say from script h before after _ = after.held ≡ before.held

-- the line was written, or memory ran out
abbrev pub IsJudged : Status → Type 0
IsJudged Status.Done = Unit {0}
IsJudged (Status.NotLegal n) = Unit {0}
IsJudged Status.NoMemory = Unit {0}
IsJudged _ = ⊥

-- the report was found to be that of this script and this history, or memory ran out
abbrev pub Finds : Program → List Entry → Ended → Status → Type 0
Finds c h ended Status.Done = (ended.script ≡ Some c) × (ended.history.entries ≡ h)
Finds c h ended Status.NoMemory = Unit {0}
Finds c h ended _ = ⊥

-- A report is read; of a legal one something is said, and of other bytes the first bad line is named.
pub record SaysOfReport (say : List Entry → List ℕ) (io : Traffic) (ended : Ended) : Type 0 where
  -- At `Done` the bytes read are the report of the script and the history in the answer, which is legal. At `NotLegal`
  -- the line that is named is the first bad one of the bytes. At `WriteFault` it is one of both. `TooLong` tells that
  -- more was there to read than the limit. There are no other statuses but `ReadFault` and `NoMemory`.
  pub read : HasJudged ended.script ended.history.entries io.source io.source_after ended.status
  -- `ReadFault` comes only if the source counted a fault.
  pub read_faults : ReadFaulted io.source.faults io.source_after.faults ended.status
  -- The answer has a script and a history that is legal for it at `Done`, and at `WriteFault` if it was the text on
  -- a legal report that did not go out; else it has none.
  pub answer : HasReport ended.script ended.history.entries ended.status
  -- At `Done` what is said of the history was written, and at `NotLegal` the line on the first bad line. At
  -- `WriteFault` a front of the text that was due was written; at `NoMemory` nothing, or a front of the text that was
  -- due if the sink itself ran out of memory; nothing at other statuses.
  pub written : HasTold say io.source ended.script ended.history.entries io.sink io.sink_after ended.status
  -- `WriteFault` comes only if the sink counted a fault.
  pub write_faults : WriteFaulted io.sink.faults io.sink_after.faults ended.status
  -- If the text went out whole, the sink sent all of it on.
  pub flushed : IsFlushed io.sink_after.pending ended.status
  pub receipt : ended.receipt ≡ None
  -- If neither stream counted a fault, and there are no more bytes than the limit, a verdict is written, or memory runs
  -- out.
  pub complete : NoFault io
      → IfSome io.source.left (λ bytes. length bytes ≤ 268435456 → IsJudged ended.status)
  -- If the bytes are then the report of a script and of a history that is legal for it, these are found.
  pub finds : NoFault io → IfSome io.source.left (λ bytes. length bytes ≤ 268435456
      → (c : Program) (h : List Entry) → IsLegalReportOf c h bytes → Finds c h ended ended.status)

-- the text is a line with the number of entries
abbrev pub Checks : Traffic → Ended → Type 0
Checks = SaysOfReport (λ h. legal_line (length h))

-- the text tells for each load the entries that its bytes came from
abbrev pub Explains : Traffic → Ended → Type 0
Explains = SaysOfReport why_text
