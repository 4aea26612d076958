-- The calls that read nothing: `generate N` writes the text of a generated script, `trial N` runs it and writes the
-- summary.
use Rattle.std.specs.Prelude.{◌≡◌, ℕ, List, [], Option, None}
use Rattle.hm_history.specs.Kernel.Run.{run}
use Rattle.hm_report.specs.Summary.{summary}
use Rattle.hm_script.specs.Generator.{generated}
use Rattle.hm_script.specs.Spelling.{text}
use Rattle.hm_base.specs.Program.{Program}
use Rattle.hm_history.specs.declared.Entry.{Entry}
use Rattle.hm_top.specs.Running.{Answered, AnsweredNone, RanWhole}
use Rattle.hm_edge.specs.Traffic.{Traffic}
use Rattle.hm_edge.specs.Writing.{HasWritten, IsFlushed, WriteFaulted}
use Rattle.hm_top.specs.declared.ended.Ended.{Ended}
use Rattle.hm_edge.specs.declared.status.Status.{Status}

-- this holds of the script and the history in the answer at `Done` and `WriteFault`; at `NoMemory` the answer has none;
-- and there is no other status
abbrev pub HasMade : (Program → List Entry → Type 0) → Option Program → List Entry → Status → Type 0
HasMade Is script h Status.Done = Answered Is script h
HasMade Is script h Status.WriteFault = Answered Is script h
HasMade Is script h Status.NoMemory = AnsweredNone script h
HasMade Is script h _ = ⊥

-- the script is this one, and nothing was run
abbrev pub IsAlone : Program → Program → List Entry → Type 0
IsAlone t s h = (s ≡ t) × (h ≡ [])

-- the clause of `run` for the word `generate`
pub record Generates (n : ℕ) (io : Traffic) (ended : Ended) : Type 0 where
  -- Nothing is read.
  pub unread : io.source_after ≡ io.source
  -- The script is the generated one; the call ends with `Done`, `WriteFault` or `NoMemory`.
  pub made : HasMade (IsAlone (generated n)) ended.script ended.history.entries ended.status
  -- Its text goes out; a front of it at `WriteFault`, and at `NoMemory` if the sink itself ran out of memory.
  pub written : HasWritten (text (generated n)) (λ t. t ≡ text (generated n)) io.sink io.sink_after ended.status
  pub write_faults : WriteFaulted io.sink.faults io.sink_after.faults ended.status
  -- If the text went out whole, the sink sent all of it on.
  pub flushed : IsFlushed io.sink_after.pending ended.status
  pub receipt : ended.receipt ≡ None

-- the script is this one, and its history is its run, which is legal, and never full
abbrev pub IsTried : Program → Program → List Entry → Type 0
IsTried t s h = (s ≡ t) × RanWhole s h

-- the clause of `run` for the word `trial`
pub record Tries (n : ℕ) (io : Traffic) (ended : Ended) : Type 0 where
  -- Nothing is read.
  pub unread : io.source_after ≡ io.source
  -- The script is the generated one, and the history its run; the call ends with `Done`, `WriteFault` or `NoMemory`.
  pub ran : HasMade (IsTried (generated n)) ended.script ended.history.entries ended.status
  -- The summary of that run goes out; a front of it at `WriteFault`, and at `NoMemory` if the sink itself ran
  -- out of memory.
  pub written : HasWritten (summary n (generated n) (run (generated n)))
      (λ t. t ≡ summary n (generated n) (run (generated n))) io.sink io.sink_after ended.status
  pub write_faults : WriteFaulted io.sink.faults io.sink_after.faults ended.status
  -- If the text went out whole, the sink sent all of it on.
  pub flushed : IsFlushed io.sink_after.pending ended.status
  pub receipt : ended.receipt ≡ None
