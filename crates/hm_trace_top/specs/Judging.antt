-- What a call comes to: what was read, and what is written of it.
use Rattle.std.specs.Prelude.{◌≡◌, ◌⊎◌, ℕ, List, [], IfSome, Ok}
use Rattle.hm_edge.specs.Input.{LeftOver}
use Rattle.hm_edge.specs.Reading.{ReadFaulted}
use Rattle.hm_edge.specs.Traffic.{IsUntouched, Traffic}
use Rattle.hm_edge.specs.Writing.{HasWritten, IsFlushed, WriteFaulted}
use Rattle.hm_edge.specs.declared.status.Status.{Status}
use Rattle.hm_io.specs.Streams.{SourceState}
use Rattle.hm_protocol.specs.declared.rules.Rule.{Rule}
use Rattle.hm_report.specs.declared.written.Written.{Written}
use Rattle.hm_trace_top.specs.Heard.{Heard, IsUnsaid, said_of}
use Rattle.hm_trace_top.specs.Together.{outcome_of}
use Rattle.hm_trace_top.specs.Words.{Asked, HasNoTask, task_in}
use Rattle.hm_trace_top.specs.declared.ended.Ended.{Ended}
use Rattle.hm_trace_top.specs.declared.ended.Outcome.{Outcome}

-- ---- how a call ends

-- the status of any program that leaves the streams so: all went out, a front of it, or nothing
abbrev pub streams_as : Ended → Status
streams_as (Ended.Told o) = Status.Done
streams_as Ended.ReadFault = Status.ReadFault
streams_as Ended.WriteFault = Status.WriteFault
streams_as Ended.NoMemory = Status.NoMemory
streams_as _ = Status.Usage

-- how a call ends whose text was written so, of verdicts that come to this
abbrev pub ending_of : Outcome → Written → Ended
ending_of o Written.Done = Ended.Told o
ending_of o Written.Fault = Ended.WriteFault
ending_of o Written.NoMemory = Ended.NoMemory

-- the call ends as the verdicts say that come to this, or they did not go out
abbrev pub EndsAs : Outcome → Ended → Type 0
EndsAs o (Ended.Told x) = o ≡ x
EndsAs o Ended.WriteFault = Unit {0}
EndsAs o Ended.NoMemory = Unit {0}
EndsAs o _ = ⊥

-- how reading ends if nothing is said of the bytes
abbrev pub HasNoTrace : SourceState → Ended → Type 0
HasNoTrace before Ended.TooLong =
    LeftOver before.left 268435456 ⊎ IfSome before.left (λ bytes. IsUnsaid bytes Ended.TooLong)
HasNoTrace before (Ended.Refused why) = IfSome before.left (λ bytes. IsUnsaid bytes (Ended.Refused why))
HasNoTrace before (Ended.RefusedIn n why) = IfSome before.left (λ bytes. IsUnsaid bytes (Ended.RefusedIn n why))
HasNoTrace before Ended.ReadFault = Unit {0}
HasNoTrace before Ended.NoMemory = Unit {0}
HasNoTrace before _ = ⊥

-- ---- the streams

-- a trace was read, or several, and this was written of them
pub record Told (rs : List Rule) (io : Traffic) (ended : Ended) : Type 0 where
  pub heard : Heard
  pub said : IfSome io.source.left (λ bytes. said_of bytes ≡ Ok heard)
  pub ends : EndsAs (outcome_of rs heard.said) ended
  pub written : HasWritten heard.text (λ t. t ≡ heard.text) io.sink io.sink_after (streams_as ended)

-- nothing was said, and nothing written
pub record HasNone (io : Traffic) (ended : Ended) : Type 0 where
  pub why : HasNoTrace io.source ended
  pub nothing : io.sink_after ≡ io.sink

-- a trace is read, or several, and the verdicts are written; these rules are to be tested
pub record Judges (rs : List Rule) (io : Traffic) (ended : Ended) : Type 0 where
  pub told : Told rs io ended ⊎ HasNone io ended
  pub read_faults : ReadFaulted io.source.faults io.source_after.faults (streams_as ended)
  pub write_faults : WriteFaulted io.sink.faults io.sink_after.faults (streams_as ended)
  -- If the text went out whole, the sink sent all of it on.
  pub flushed : IsFlushed io.sink_after.pending (streams_as ended)

-- the words ask for nothing, or memory ran out: nothing was read, and nothing written
pub record HasRefused (words : List (List ℕ)) (io : Traffic) (ended : Ended) : Type 0 where
  pub why : HasNoTask (task_in words) ended
  pub untouched : IsUntouched io

-- what is asked for was done
abbrev pub Does : Asked → Traffic → Ended → Type 0
Does Asked.Verdicts io ended = Judges [] io ended
Does (Asked.Expect rs) io ended = Judges rs io ended

-- the words after the program's name ask for this, and it was done
pub record HasDone (words : List (List ℕ)) (io : Traffic) (ended : Ended) : Type 0 where
  pub asked : Asked
  pub is : task_in words ≡ Ok asked
  pub does : Does asked io ended

-- what the words after the program's name ask for was done, or they ask for nothing
abbrev pub Runs : List (List ℕ) → Traffic → Ended → Type 0
Runs words io ended = HasDone words io ended ⊎ HasRefused words io ended
