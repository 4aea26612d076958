-- How the program ends, from its arguments to its exit code.
use Rattle.std.specs.Prelude.{◌≡◌, ◌≢◌, ◌⊎◌, ℕ, drop, Ok, Err}
use Rattle.std.specs.declared.io.ErrorKind.{ErrorKind}
use Rattle.hm_edge.specs.Exits.{Arguments}
use Rattle.hm_edge.specs.Traffic.{IsUntouched, Traffic}
use Rattle.hm_io.specs.Streams.{SinkState}
use Rattle.hm_trace_top.specs.Endings.{Says, code_of}
use Rattle.hm_trace_top.specs.Judging.{Runs}
use Rattle.hm_trace_top.specs.declared.ended.Ended.{Ended}

-- how it ends with these arguments if it makes no call: memory ran out as they were read, or there was none for the
-- words; or they could not be read for another reason: one of them is no text
abbrev pub MayNotBegin : Arguments → Ended → Type 0
MayNotBegin (Ok args) Ended.NoMemory = Unit {0}
MayNotBegin (Err kind) Ended.NoMemory = kind ≡ ErrorKind.OutOfMemory
MayNotBegin (Err kind) Ended.Usage = kind ≢ ErrorKind.OutOfMemory
MayNotBegin args _ = ⊥

-- it has read nothing, and written nothing
pub record HasNotBegun (args : Arguments) (io : Traffic) (ended : Ended) : Type 0 where
  pub why : MayNotBegin args ended
  pub untouched : IsUntouched io

-- a call was made with the words after the program's name, or none was
abbrev pub Begins : Arguments → Traffic → Ended → Type 0
Begins (Err kind) io ended = HasNotBegun (Err kind) io ended
Begins (Ok args) io ended = Runs (drop 1 args) io ended ⊎ HasNotBegun (Ok args) io ended

-- The program ends with this exit code.
pub record Exits (args : Arguments) (io : Traffic) (errors errors_after : SinkState) (code : ℕ) : Type 0
  where
    pub ended : Ended
    -- What the call did, by the words after the program's name.
    pub does : Begins args io ended
    -- The exit code is that of its end.
    pub code_is : code ≡ code_of ended
    -- The line of its end was written to the error stream.
    pub says : Says ended errors errors_after
