-- Events whose numbers fit in 64 bits: those that a program can have.
use Rattle.std.specs.Prelude.{ℕ, ◌^◌, ◌<◌, Option, Some, None}
use Rattle.hm_base.specs.Pages.{Pages}
use Rattle.hm_protocol.specs.declared.events.Event.{Event}
use Rattle.hm_protocol.specs.declared.events.TraceFrame.{TraceFrame}
use Rattle.hm_protocol.specs.declared.events.Traced.{Traced}
use Rattle.hm_trace.specs.declared.line.TraceLine.{TraceLine}

-- the number fits in 64 bits
abbrev pub Fits64 : ℕ → Type 0
Fits64 n = n < 2 ^ 64

-- the device's number, if there is one, fits
abbrev pub FitsOwner : Option ℕ → Type 0
FitsOwner None = Unit {0}
FitsOwner (Some d) = Fits64 d

-- the numbers of a span fit
abbrev pub FitsSpan : Pages → Type 0
FitsSpan r = Fits64 r.first × Fits64 r.count

-- the numbers of a frame fit
abbrev pub FitsFrame : TraceFrame → Type 0
FitsFrame TraceFrame.Nothing = Unit {0}
FitsFrame TraceFrame.ZeroPage = Unit {0}
FitsFrame (TraceFrame.System n) = Fits64 n
FitsFrame (TraceFrame.Private d n) = Fits64 d × Fits64 n
FitsFrame (TraceFrame.Coherent d n) = Fits64 d × Fits64 n

-- the numbers of an event fit
abbrev pub FitsEvent : Event → Type 0
FitsEvent (Event.Found m v f w) = Fits64 m × Fits64 v × FitsFrame f
FitsEvent (Event.Use m r w) = Fits64 m × FitsSpan r
FitsEvent (Event.Set m v f right) = Fits64 m × Fits64 v × FitsFrame f
FitsEvent (Event.Erase m v) = Fits64 m × Fits64 v
FitsEvent (Event.Start p r why d) = Fits64 p × FitsSpan r × FitsOwner d
FitsEvent (Event.End p r) = Fits64 p × FitsSpan r
FitsEvent (Event.Tell m r q) = Fits64 m × FitsSpan r × Fits64 q
FitsEvent (Event.Told m q t) = Fits64 m × Fits64 q
FitsEvent (Event.Begin m q) = Fits64 m × Fits64 q
FitsEvent (Event.Walk m r q l d) = Fits64 m × FitsSpan r × Fits64 q × FitsOwner d
FitsEvent (Event.Walked m t) = Fits64 m
FitsEvent (Event.From v f w) = Fits64 v × FitsFrame f
FitsEvent (Event.Moved v f) = Fits64 v × FitsFrame f
FitsEvent (Event.Stayed v f) = Fits64 v × FitsFrame f
FitsEvent (Event.Setup p r t d) = Fits64 p × FitsSpan r × FitsOwner d
FitsEvent (Event.Ready p) = Fits64 p
FitsEvent (Event.Paged p) = Fits64 p
FitsEvent (Event.Finalize p) = Fits64 p
FitsEvent (Event.Take f) = FitsFrame f
FitsEvent (Event.Free f) = FitsFrame f
FitsEvent (Event.Insert m p r d) = Fits64 m × Fits64 p × FitsSpan r × FitsOwner d
FitsEvent (Event.Inserted m q t) = Fits64 m × Fits64 q
FitsEvent (Event.Remove m) = Fits64 m
FitsEvent (Event.Removed m) = Fits64 m
FitsEvent (Event.Fetch m v) = Fits64 m × Fits64 v
FitsEvent (Event.Add m v) = Fits64 m × Fits64 v
FitsEvent (Event.Withdraw d) = Fits64 d
FitsEvent (Event.Gone d) = Fits64 d
FitsEvent (Event.Pass f) = FitsFrame f

-- an event of a thread, that a program can have
pub record FitsTraced (e : Traced) : Type 0 where
  pub thread : Fits64 e.thread
  pub event : FitsEvent e.event

-- what a line tells, by a program
abbrev pub FitsLine : TraceLine → Type 0
FitsLine TraceLine.Blank = Unit {0}
FitsLine (TraceLine.Names r) = Unit {0}
FitsLine (TraceLine.Event n e) = Fits64 n × FitsTraced e
FitsLine (TraceLine.Lost count missed) = Fits64 count × Fits64 missed
