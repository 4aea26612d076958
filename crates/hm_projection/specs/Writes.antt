-- What a call comes to: what was read, and what was written of it.
use Rattle.std.specs.Prelude.{◌≡◌, ◌⊎◌, ◌≤◌, false, List, length, IfSome}
use Rattle.hm_base.specs.Program.{Program}
use Rattle.hm_check.specs.FirstBad.{IsFirstBad, IsLegalReport}
use Rattle.hm_check.specs.Judging.{IsLegalReportOf}
use Rattle.hm_edge.specs.Input.{LeftOver}
use Rattle.hm_edge.specs.Reading.{ReadFaulted}
use Rattle.hm_edge.specs.Traffic.{Traffic}
use Rattle.hm_edge.specs.Writing.{WriteFaulted}
use Rattle.hm_edge.specs.declared.status.Status.{Status}
use Rattle.hm_history.specs.declared.Entry.{Entry}
use Rattle.hm_io.specs.Streams.{Adds, AddsFront, Rose, SinkState}
use Rattle.hm_projection.specs.Traces.{IsReadBack, trace_of}

-- what was written of a history, by how it ends: its trace, which is read as just its events, a front of it, or nothing.
-- It ends in no other way
abbrev pub HasTraced : Program → List Entry → SinkState → SinkState → Status → Type 0
HasTraced c h before after Status.Done = Adds before.held after.held (trace_of c h) × IsReadBack c h
HasTraced c h before after Status.WriteFault = AddsFront before.held after.held (trace_of c h)
HasTraced c h before after Status.NoMemory =
    (after ≡ before) ⊎ (AddsFront before.held after.held (trace_of c h) × Rose before.wants after.wants)
HasTraced c h before after _ = ⊥

-- a legal report was read, and this was written of its history
pub record Traced (io : Traffic) (status : Status) : Type 0 where
  pub script : Program
  pub history : List Entry
  pub legal : IsLegalReport script history
  pub read : IfSome io.source.left (IsLegalReportOf script history)
  pub written : HasTraced script history io.sink io.sink_after status

-- what was read and written, by how the call ends
abbrev pub HasSeen : Traffic → Status → Type 0
HasSeen io (Status.NotLegal n) =
    IfSome io.source.left (λ bytes. IsFirstBad bytes n) × (io.sink_after ≡ io.sink)
HasSeen io Status.ReportTooLong = LeftOver io.source.left 268435456 × (io.sink_after ≡ io.sink)
HasSeen io Status.ReadFault = io.sink_after ≡ io.sink
HasSeen io Status.NoMemory = (io.sink_after ≡ io.sink) ⊎ Traced io Status.NoMemory
HasSeen io Status.Done = Traced io Status.Done
HasSeen io Status.WriteFault = Traced io Status.WriteFault
HasSeen io _ = ⊥

-- the report of this script and this history was found to be theirs, or memory ran out
abbrev pub Finds : Program → List Entry → Traffic → Status → Type 0
Finds c h io status = (status ≡ Status.NoMemory) ⊎ HasTraced c h io.sink io.sink_after status

-- a report is read, and the trace of its history is written
pub record WritesTrace (io : Traffic) (status : Status) : Type 0 where
  pub seen : HasSeen io status
  pub read_faults : ReadFaulted io.source.faults io.source_after.faults status
  pub write_faults : WriteFaulted io.sink.faults io.sink_after.faults status
  -- What was written at `Done`, the sink sent on.
  pub flushed : status ≡ Status.Done → io.sink_after.pending ≡ false
  -- If the source counted no fault, and had no more bytes than the limit, and they are a legal report, its trace is
  -- written.
  pub finds : (Rose io.source.faults io.source_after.faults → ⊥)
      → IfSome io.source.left (λ bytes. length bytes ≤ 268435456
      → (c : Program) (h : List Entry) → IsLegalReportOf c h bytes → Finds c h io status)
