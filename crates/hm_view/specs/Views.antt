-- What a call comes to: what was read, and what was drawn of it.
use Rattle.std.specs.Prelude.{◌≡◌, ◌⊎◌, ℕ, ◌≤◌, true, false, List, length, Option, Some, None, IfSome}
use Rattle.hm_base.specs.Program.{Program}
use Rattle.hm_check.specs.FirstBad.{IsFirstBad, IsLegalReport}
use Rattle.hm_history.specs.declared.Entry.{Entry}
use Rattle.hm_io.specs.Streams.{Rose, Adds, AddsFront, SinkState}
use Rattle.hm_view.specs.Asked.{first, behind, is_there, fits}
use Rattle.hm_view.specs.Page.{page_text}
use Rattle.hm_edge.specs.Input.{LeftOver}
use Rattle.hm_check.specs.Judging.{IsLegalReportOf}
use Rattle.hm_edge.specs.Reading.{ReadFaulted}
use Rattle.hm_edge.specs.Traffic.{Traffic}
use Rattle.hm_edge.specs.Writing.{WriteFaulted}
use Rattle.hm_view.specs.declared.asked.Asked.{Asked}
use Rattle.hm_edge.specs.declared.status.Status.{Status}

-- the page of the rows that are asked for
abbrev pub page : Asked → Program → List Entry → List ℕ
page x c h = page_text c h (first x) (behind x (length h))

-- the rows are there, and few enough for a page
pub record CanBeDrawn (x : Asked) (n : ℕ) : Type 0 where
  pub there : is_there x n ≡ true
  pub few : fits x n ≡ true

-- what was drawn of a report, by how it ends: its page, a front of it, or nothing. It ends in no other way
abbrev pub HasDrawn : Asked → Program → List Entry → SinkState → SinkState → Status → Type 0
HasDrawn x c h before after Status.Done =
    CanBeDrawn x (length h) × Adds before.held after.held (page x c h)
HasDrawn x c h before after Status.WriteFault =
    CanBeDrawn x (length h) × AddsFront before.held after.held (page x c h)
HasDrawn x c h before after Status.NoMemory = CanBeDrawn x (length h)
    × ((after ≡ before) ⊎ (AddsFront before.held after.held (page x c h) × Rose before.wants after.wants))
HasDrawn x c h before after Status.NoRows = (is_there x (length h) ≡ false) × (after ≡ before)
HasDrawn x c h before after Status.TooManyRows =
    (is_there x (length h) ≡ true) × ((fits x (length h) ≡ false) × (after ≡ before))
HasDrawn x c h before after _ = ⊥

-- a legal report was read, and this was drawn of it
pub record Drew (x : Asked) (io : Traffic) (status : Status) : Type 0 where
  pub script : Program
  pub history : List Entry
  pub legal : IsLegalReport script history
  pub read : IfSome io.source.left (IsLegalReportOf script history)
  pub drawn : HasDrawn x script history io.sink io.sink_after status

-- what was read and drawn, by how the call ends
abbrev pub HasSeen : Asked → Traffic → Status → Type 0
HasSeen x io (Status.NotLegal n) =
    IfSome io.source.left (λ bytes. IsFirstBad bytes n) × (io.sink_after ≡ io.sink)
HasSeen x io Status.ReportTooLong = LeftOver io.source.left 268435456 × (io.sink_after ≡ io.sink)
HasSeen x io Status.ReadFault = io.sink_after ≡ io.sink
HasSeen x io Status.NoMemory = (io.sink_after ≡ io.sink) ⊎ Drew x io Status.NoMemory
HasSeen x io Status.Done = Drew x io Status.Done
HasSeen x io Status.WriteFault = Drew x io Status.WriteFault
HasSeen x io Status.NoRows = Drew x io Status.NoRows
HasSeen x io Status.TooManyRows = Drew x io Status.TooManyRows
HasSeen x io _ = ⊥

-- the report of this script and this history was found to be theirs, or memory ran out
abbrev pub Finds : Asked → Program → List Entry → Traffic → Status → Type 0
Finds x c h io status = (status ≡ Status.NoMemory) ⊎ HasDrawn x c h io.sink io.sink_after status

-- a report is read, and the rows that are asked for are drawn
pub record Draws (x : Asked) (io : Traffic) (status : Status) : Type 0 where
  pub seen : HasSeen x io status
  pub read_faults : ReadFaulted io.source.faults io.source_after.faults status
  pub write_faults : WriteFaulted io.sink.faults io.sink_after.faults status
  -- What was written at `Done`, the sink sent on.
  pub flushed : status ≡ Status.Done → io.sink_after.pending ≡ false
  -- If the source counted no fault, and had no more bytes than the limit, and they are a legal report, it is drawn.
  pub finds : (Rose io.source.faults io.source_after.faults → ⊥)
      → IfSome io.source.left (λ bytes. length bytes ≤ 268435456
      → (c : Program) (h : List Entry) → IsLegalReportOf c h bytes → Finds x c h io status)

-- the words are none of the forms: nothing was read, and nothing written
pub record HasRefused (io : Traffic) (status : Status) : Type 0 where
  pub usage : status ≡ Status.Usage
  pub source : io.source_after ≡ io.source
  pub sink : io.sink_after ≡ io.sink

-- by what the words ask for
abbrev pub Views : Option Asked → Traffic → Status → Type 0
Views None io status = HasRefused io status
Views (Some x) io status = Draws x io status
