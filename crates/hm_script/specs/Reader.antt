-- What a reader has read.
use Rattle.std.specs.Prelude.{◌≡◌, ℕ, Result, Ok, Err}
use Rattle.hm_base.specs.Program.{Program}
use Rattle.hm_script.specs.declared.reader.Reader.{Reader}
use Rattle.hm_script.specs.declared.reason.LineError.{LineError}
use Rattle.hm_script.specs.declared.reason.LineError.TheVariants as line_errors
use Rattle.hm_script.specs.declared.reason.Reason.{Reason}
use Rattle.hm_script.specs.declared.reason.Refused.{Refused}
use Rattle.hm_script.specs.declared.reason.ScriptError.{ScriptError}
use Rattle.hm_script.specs.declared.reason.ScriptError.TheVariants as errors
use Rattle.hm_script.specs.Gives.{Fails}
use Rattle.hm_script.specs.Automaton.{State, state, refused}

-- the script that the reader's fields hold so far
abbrev pub program_of : Reader → Program
program_of r =
    record {
      version = r.version;
      frames = r.frames;
      devices = r.devices;
      skip = r.skip;
      actors = r.actors;
      schedule = r.schedule;
    }

-- the state of the definition that the reader stands for
abbrev pub state_of : Reader → State
state_of r = state r.part (program_of r)

-- the line led to the new state, or it is bad for this reason, unless memory ran out
abbrev pub Moves : Result (Unit {0}) LineError → Result State Reason → State → Type 0
Moves (Ok _) read new = read ≡ Ok new
Moves (Err e) read new = Fails e read

-- what was returned is what reading gives, unless memory ran out
abbrev pub Reads : Result Program ScriptError → Result Program Refused → Type 0
Reads (Ok s) read = read ≡ Ok s
Reads (Err errors.NoMemory) read = Unit {0}
Reads (Err (errors.Refused r)) read = read ≡ Err r

-- the error of this line
abbrev pub error_at : ℕ → LineError → ScriptError
error_at n (line_errors.Bad r) = errors.Refused (refused n r)
error_at n line_errors.NoMemory = errors.NoMemory

-- a statement about the refusal, if the script was refused; of a script, or of memory that ran out, it asks nothing
abbrev pub OnRefused : Result Program ScriptError → (Refused → Type 0) → Type 0
OnRefused (Ok s) P = Unit {0}
OnRefused (Err errors.NoMemory) P = Unit {0}
OnRefused (Err (errors.Refused r)) P = P r
