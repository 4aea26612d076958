-- The theorem of the program hmmtrace: what its user is told.
use Rattle.std.specs.Prelude.{◌≡◌, ◌⊎◌, ℕ, ◌<◌, List, [], length, Result, Ok, Err}
use Rattle.hm_edge.specs.Exits.{Arguments}
use Rattle.hm_edge.specs.Traffic.{IsUntouched, Traffic}
use Rattle.hm_edge.specs.Users.{CutShort, GoesOut, IsStarted, NothingOut}
use Rattle.hm_io.specs.Streams.{SinkState}
use Rattle.hm_protocol.specs.declared.rules.Rule.{Rule}
use Rattle.hm_trace_top.specs.Endings.{Says, code_of}
use Rattle.hm_trace_top.specs.Exits.{Exits}
use Rattle.hm_trace_top.specs.Heard.{Heard, IsUnsaid, said_of}
use Rattle.hm_trace_top.specs.Together.{outcome_of}
use Rattle.hm_trace_top.specs.Words.{Asked, task_in}
use Rattle.hm_trace_top.specs.declared.ended.Ended.{Ended}
use Rattle.hm_trace_top.specs.declared.ended.Outcome.{Outcome}

-- The bytes are a trace, or several, and what is said of them went out. The verdicts come to this, if these rules are to
-- be tested.
pub record TellsVerdicts (rs : List Rule) (o : Outcome) (bytes held : List ℕ) (io : Traffic) : Type 0 where
  pub heard : Heard
  pub said : said_of bytes ≡ Ok heard
  pub says : outcome_of rs heard.said ≡ o
  pub out : GoesOut held heard.text io

-- the text is what is said of the bytes
abbrev pub IsOfTrace : List ℕ → List ℕ → Type 0
IsOfTrace bytes t = (h : Heard) × (said_of bytes ≡ Ok h) × (t ≡ h.text)

-- Nothing is written. The program ends so if a number of 64 bits cannot count what a rule counts; that it ends so for
-- nothing else is not said, but that bytes which are no list are a trace.
pub record IsUncounted (bytes held : List ℕ) (io : Traffic) : Type 0 where
  pub why : IsUnsaid bytes Ended.TooLong
  pub nothing : NothingOut held io

-- The bytes are no trace, or a trace of the list is none. The first bad line is named, with what is wrong with it, and
-- nothing is written.
pub record IsNoTrace (ended : Ended) (bytes held : List ℕ) (io : Traffic) : Type 0 where
  pub said : said_of bytes ≡ Err ended
  pub nothing : NothingOut held io

-- by how it ends, if these rules are to be tested; it ends in no other way
abbrev pub ToldTrace : List Rule → List ℕ → List ℕ → Traffic → Ended → Type 0
ToldTrace rs bytes held io (Ended.Told o) = TellsVerdicts rs o bytes held io
ToldTrace rs bytes held io (Ended.Refused why) = IsNoTrace (Ended.Refused why) bytes held io
ToldTrace rs bytes held io (Ended.RefusedIn n why) = IsNoTrace (Ended.RefusedIn n why) bytes held io
ToldTrace rs bytes held io Ended.TooLong =
    ((268435456 < length bytes) × NothingOut held io) ⊎ IsUncounted bytes held io
ToldTrace rs bytes held io Ended.NoMemory = CutShort (IsOfTrace bytes) held io
ToldTrace rs bytes held io _ = ⊥

-- words that ask for nothing: what is wrong with them is said, and nothing is read or written
abbrev pub ToldNoTask : Ended → Traffic → Ended → Type 0
ToldNoTask why io ended = ((ended ≡ why) ⊎ (ended ≡ Ended.NoMemory)) × IsUntouched io

-- by what the words ask for
abbrev pub ToldAsked : Result Asked Ended → List ℕ → List ℕ → Traffic → Ended → Type 0
ToldAsked (Ok Asked.Verdicts) bytes held io ended = ToldTrace [] bytes held io ended
ToldAsked (Ok (Asked.Expect rs)) bytes held io ended = ToldTrace rs bytes held io ended
ToldAsked (Err why) bytes held io ended = ToldNoTask why io ended

-- by the words
abbrev pub ToldBy : List (List ℕ) → List ℕ → List ℕ → Traffic → Ended → Type 0
ToldBy words bytes held io ended = ToldAsked (task_in words) bytes held io ended

-- It ends with the exit code of such an end, and writes its line to the error stream.
pub record EndsSo (At : Ended → Type 0) (errors errors_after : SinkState) (code : ℕ) : Type 0 where
  pub ended : Ended
  pub code_is : code ≡ code_of ended
  pub says : Says ended errors errors_after
  pub told : At ended

-- Whoever starts the program with words after its name, an input and an output that do not fail, is told this.
abbrev pub Theorem : Type 0
Theorem = (words : List (List ℕ)) (bytes held : List ℕ) (args : Arguments) (io : Traffic)
    (errors errors_after : SinkState) (code : ℕ) → IsStarted words bytes held args io
    → Exits args io errors errors_after code → EndsSo (ToldBy words bytes held io) errors errors_after code
