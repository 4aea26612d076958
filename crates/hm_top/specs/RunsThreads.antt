-- The call with the word `threads`: a script is read, each actor goes from a thread of its own to its end, and the
-- report goes out. The schedule is not used.
use Rattle.std.specs.Prelude.{◌≡◌, ◌⊎◌, ℕ, List, length, Option, Some, None, IfSome}
use Rattle.hm_base.specs.Program.{Program}
use Rattle.hm_history.specs.Kernel.Legal.{Legal}
use Rattle.hm_history.specs.declared.Entry.{Entry}
use Rattle.hm_report.specs.Report.{report}
use Rattle.hm_world.specs.WorldValue.{HasDue}
use Rattle.hm_edge.specs.Reading.{IsGiven, HasRead, IsTextOf, ReadFaulted}
use Rattle.hm_edge.specs.Traffic.{NoFault, Traffic}
use Rattle.hm_top.specs.Drained.{IsDone}
use Rattle.hm_top.specs.Replays.{IsItsText}
use Rattle.hm_top.specs.Running.{Answered, AnsweredNone, told_of}
use Rattle.hm_io.specs.Streams.{SourceState}
use Rattle.hm_edge.specs.Writing.{HasWritten, IsFlushed, WriteFaulted}
use Rattle.hm_top.specs.declared.ended.Ended.{Ended}
use Rattle.hm_edge.specs.declared.status.Status.{Status}

-- the history is legal, and after it every operation has ended
pub record AllEnded (s : Program) (h : List Entry) : Type 0 where
  pub legal : Legal s h
  pub ended : (a : ℕ) → IsDone s h a

-- the history is legal and full, and some actor has an entry due
pub record StoppedFull (s : Program) (h : List Entry) : Type 0 where
  pub legal : Legal s h
  pub full : length h ≡ 2000000
  pub has_due : HasDue s h

-- one of the two
abbrev pub CameToEnd : Program → List Entry → Type 0
CameToEnd s h = AllEnded s h ⊎ StoppedFull s h

-- what was run
abbrev pub HasRunThreads : Option Program → List Entry → Status → Type 0
HasRunThreads script h Status.Done = Answered AllEnded script h
HasRunThreads script h Status.HistoryFull = Answered StoppedFull script h
HasRunThreads script h Status.WriteFault = Answered CameToEnd script h
HasRunThreads script h (Status.NotLegal n) = ⊥
HasRunThreads script h _ = AnsweredNone script h

-- if a report went out there is a receipt, and its list is the history
abbrev pub HasReceipt : Option (List Entry) → List Entry → Status → Type 0
HasReceipt receipt h Status.Done = receipt ≡ Some h
HasReceipt receipt h Status.HistoryFull = receipt ≡ Some h
HasReceipt receipt h Status.WriteFault = receipt ≡ Some h
HasReceipt receipt h _ = receipt ≡ None

-- the text is the report of a script with these bytes, and of a history that its actors came to
pub record IsThreadsReport (from : SourceState) (t : List ℕ) : Type 0 where
  pub script : Program
  pub history : List Entry
  pub read : IfSome from.left (IsTextOf script)
  pub ran : CameToEnd script history
  pub text_is : t ≡ report script history

-- the report was written, whether or not all operations have ended, or memory ran out
abbrev pub IsCompleteOrFull : Status → Type 0
IsCompleteOrFull Status.Done = Unit {0}
IsCompleteOrFull Status.HistoryFull = Unit {0}
IsCompleteOrFull Status.NoMemory = Unit {0}
IsCompleteOrFull _ = ⊥

-- A script is read, its actors go from threads of their own to their ends, and a text that tells of that goes out.
pub record TellsOfThreads (tell : Program → List Entry → List ℕ) (Goes : List ℕ → Type 0) (io : Traffic)
    (ended : Ended) : Type 0 where
  -- What is read is as for `replay`.
  pub read : HasRead (IsItsText ended.script) io.source io.source_after ended.status
  pub read_faults : ReadFaulted io.source.faults io.source_after.faults ended.status
  -- If the text goes out, the history is legal for the script. At `Done` every operation has ended; `HistoryFull`
  -- comes exactly if a turn found an entry due and the history full.
  pub ran : HasRunThreads ended.script ended.history.entries ended.status
  -- The history is that of the one machine that the workers shared, each of whose turns began with all that the
  -- worker had seen: only the end of such a sharing gives a receipt.
  pub receipt : HasReceipt ended.receipt ended.history.entries ended.status
  -- What is written is as for `replay`.
  pub written : HasWritten (told_of tell ended.script ended.history.entries) Goes io.sink io.sink_after ended.status
  pub write_faults : WriteFaulted io.sink.faults io.sink_after.faults ended.status
  -- If the text went out whole, the sink sent all of it on.
  pub flushed : IsFlushed io.sink_after.pending ended.status
  -- If neither stream counted a fault, and the bytes are the text of a script, the text is written, or memory runs
  -- out.
  pub complete : NoFault io
      → IfSome io.source.left (λ bytes. (s : Program) → IsGiven s bytes → IsCompleteOrFull ended.status)

-- the text is the report of that script and history
abbrev pub RunsThreads : Traffic → Ended → Type 0
RunsThreads io = TellsOfThreads report (IsThreadsReport io.source) io
