-- The call with the word `replay`: a script is read, its schedule's turns are made, and the report goes out.
use Rattle.std.specs.Prelude.{◌≡◌, ℕ, List, Option, Some, None, IfSome}
use Rattle.hm_base.specs.Program.{Program}
use Rattle.hm_history.specs.declared.Entry.{Entry}
use Rattle.hm_report.specs.Report.{report}
use Rattle.hm_top.specs.Complete.{HasRoom, IsComplete}
use Rattle.hm_edge.specs.Reading.{IsGiven, HasRead, IsTextOf, ReadFaulted}
use Rattle.hm_edge.specs.Traffic.{NoFault, Traffic}
use Rattle.hm_top.specs.Running.{HasRun, RanSo, told_of}
use Rattle.hm_io.specs.Streams.{SourceState}
use Rattle.hm_edge.specs.Writing.{HasWritten, IsFlushed, WriteFaulted}
use Rattle.hm_top.specs.declared.ended.Ended.{Ended}

-- the bytes are the text of the script in the answer
abbrev pub IsItsText : Option Program → List ℕ → Type 0
IsItsText None bytes = ⊥
IsItsText (Some s) bytes = IsTextOf s bytes

-- this is said of a script with these bytes, and of its run
pub record IsToldOfRun (tell : Program → List Entry → List ℕ) (from : SourceState) (t : List ℕ) : Type 0 where
  pub script : Program
  pub history : List Entry
  pub read : IfSome from.left (IsTextOf script)
  pub ran : RanSo script history
  pub text_is : t ≡ tell script history

-- A script is read and run by its schedule, and a text that tells of the run goes out.
pub record TellsOfRun (tell : Program → List Entry → List ℕ) (io : Traffic) (ended : Ended) : Type 0 where
  -- If the text goes out, the bytes read are the text of the script in the answer, and nothing is left. A script is
  -- refused exactly if no script has the bytes as its text, with the first bad line and its reason; `TooLong` tells
  -- that more was there to read than a script has.
  pub read : HasRead (IsItsText ended.script) io.source io.source_after ended.status
  -- `ReadFault` comes only if the source counted a fault.
  pub read_faults : ReadFaulted io.source.faults io.source_after.faults ended.status
  -- If the text goes out, the history is the script's run, and legal for it. `HistoryFull` comes exactly if a
  -- turn found an entry due and the history full. At `Done` every actor is done, if the schedule has a `drain`.
  pub ran : HasRun ended.script ended.history.entries ended.status
  -- The bytes written are the text of that script and history; at `WriteFault` a front of it; at `NoMemory` nothing, or
  -- a front of such a text if the sink itself ran out of memory; nothing at other statuses.
  pub written : HasWritten (told_of tell ended.script ended.history.entries) (IsToldOfRun tell io.source) io.sink
      io.sink_after ended.status
  -- `WriteFault` comes only if the sink counted a fault.
  pub write_faults : WriteFaulted io.sink.faults io.sink_after.faults ended.status
  -- If the text went out whole, the sink sent all of it on.
  pub flushed : IsFlushed io.sink_after.pending ended.status
  pub receipt : ended.receipt ≡ None
  -- If neither stream counted a fault, and the bytes are the text of a script whose history has room, the text is
  -- written, or memory runs out.
  pub complete : NoFault io
      → IfSome io.source.left (λ bytes. (s : Program) → IsGiven s bytes → HasRoom s → IsComplete ended.status)

-- the text is the report of that script and history
abbrev pub Replays : Traffic → Ended → Type 0
Replays = TellsOfRun report
