-- How a program ends, from its arguments to its exit code.
use Rattle.std.specs.Prelude.{◌≡◌, ◌≢◌, ◌⊎◌, ℕ, List, drop, Result, Ok, Err}
use Rattle.std.specs.IoError.{error_kind}
use Rattle.std.specs.declared.io.Error.{Error}
use Rattle.std.specs.declared.io.ErrorKind.{ErrorKind}
use Rattle.hm_io.specs.Streams.{SinkState}
use Rattle.hm_edge.specs.Messages.{Says, code_of}
use Rattle.hm_edge.specs.Traffic.{IsUntouched, Traffic}
use Rattle.hm_edge.specs.declared.status.Status.{Status}

-- the arguments of a program, the first of which is its name; or of what kind the error is for which they could not be
-- read
abbrev pub Arguments : Type 0
Arguments = Result (List (List ℕ)) ErrorKind

-- the arguments that the program was given
abbrev pub arguments : {A : Type 0} → (A → List (List ℕ)) → Result A Error → Arguments
arguments given (Ok args) = Ok (given args)
arguments given (Err error) = Err (error_kind error)

-- they could be read, and this holds of them
abbrev pub ArgumentsAre : (List (List ℕ) → Type 0) → Arguments → Type 0
ArgumentsAre Are (Err kind) = ⊥
ArgumentsAre Are (Ok args) = Are args

-- how a program with these arguments ends that makes no call: memory ran out as they were read, or there was none for
-- the words or for the rules; or they could not be read for another reason: one of them is no text
abbrev pub MayNotBegin : Arguments → Status → Type 0
MayNotBegin (Ok args) Status.NoMemory = Unit {0}
MayNotBegin (Err kind) Status.NoMemory = kind ≡ ErrorKind.OutOfMemory
MayNotBegin (Err kind) Status.Usage = kind ≢ ErrorKind.OutOfMemory
MayNotBegin args _ = ⊥

-- it has read nothing, and written nothing
pub record HasNotBegun (args : Arguments) (io : Traffic) (status : Status) : Type 0 where
  pub why : MayNotBegin args status
  pub untouched : IsUntouched io

-- a call was made with the words after the program's name, or none was
abbrev pub Begins : (List (List ℕ) → Traffic → Status → Type 0) → Arguments → Traffic → Status → Type 0
Begins Does (Err kind) io status = HasNotBegun (Err kind) io status
Begins Does (Ok args) io status = Does (drop 1 args) io status ⊎ HasNotBegun (Ok args) io status

-- A program with this name and this line on its words, which makes such calls, ends with this exit code.
pub record Exits (Does : List (List ℕ) → Traffic → Status → Type 0) (name usage : List ℕ)
    (args : Arguments) (io : Traffic) (errors errors_after : SinkState) (code : ℕ) : Type 0 where
  pub status : Status
  -- What the call did, by the words after the program's name.
  pub does : Begins Does args io status
  -- The exit code is that of its status.
  pub code_is : code ≡ code_of status
  -- The line of its status was written to the error stream.
  pub says : Says name usage status errors errors_after
