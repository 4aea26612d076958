-- What a call has seen, by what it has read and written.
use Rattle.std.proofs.Common.{◌≡◌, ℕ, List, inr}
use Rattle.std.specs.Prelude.{IfSome}
use Rattle.hm_base.specs.Program.{Program}
use Rattle.hm_check.specs.FirstBad.{IsLegalReport}
use Rattle.hm_check.specs.Judging.{IsLegalReportOf}
use Rattle.hm_edge.specs.Reading.{ReadFaulted}
use Rattle.hm_edge.specs.Traffic.{Traffic}
use Rattle.hm_edge.specs.declared.status.Status.{Status}
use Rattle.hm_history.specs.declared.Entry.{Entry}
use Rattle.hm_io.specs.Streams.{SinkState}
use Rattle.hm_projection.specs.Writes.{HasSeen, HasTraced}

-- a report was seen if its trace was written, or as much of it as could be
pub seen_of : (io : Traffic) (status : Status) (c : Program) (h : List Entry) → IsLegalReport c h → IfSome io.source.left (IsLegalReportOf c h) → HasTraced c h io.sink io.sink_after status → HasSeen io status
seen_of io Status.Done c h legal read w = record { script = c; history = h; legal = legal; read = read; written = w }
seen_of io Status.WriteFault c h legal read w = record { script = c; history = h; legal = legal; read = read; written = w }
seen_of io Status.NoMemory c h legal read w = inr (record { script = c; history = h; legal = legal; read = read; written = w })
seen_of io status c h legal read w = absurd w

-- then reading did not fail
pub read_of : (n m : ℕ) (status : Status) (c : Program) (h : List Entry) (before after : SinkState) → HasTraced c h before after status → m ≡ n → ReadFaulted n m status
read_of n m Status.Done c h before after w same = same
read_of n m Status.WriteFault c h before after w same = same
read_of n m Status.NoMemory c h before after w same = same
read_of n m status c h before after w same = absurd w
