-- A program as its user sees it: what it is given, what comes out of it, and how it ends.
use Rattle.std.specs.Prelude.{◌≡◌, ◌⊎◌, ℕ, ◌<◌, ◌≤◌, false, List, ◌∷◌, [], ◌++◌, length, Some, Ok, Err}
use Rattle.hm_base.specs.Program.{Program, IsScript}
use Rattle.hm_io.specs.Streams.{SinkState}
use Rattle.hm_script.specs.Automaton.{reading}
use Rattle.hm_script.specs.BadLine.{IsFirstBad}
use Rattle.hm_script.specs.Built.{every_word}
use Rattle.hm_script.specs.Spelling.{text}
use Rattle.hm_script.specs.declared.reason.Refused.{Refused}
use Rattle.hm_edge.specs.Exits.{Arguments}
use Rattle.hm_edge.specs.Messages.{Says, code_of}
use Rattle.hm_edge.specs.Traffic.{IsUntouched, NoFault, Traffic}
use Rattle.hm_edge.specs.declared.status.Status.{Status}

-- ---- what it is given

-- A program is started with these words after its name. Its input has these bytes, its output holds these, and neither
-- fails.
pub record IsStarted (words : List (List ℕ)) (bytes held : List ℕ) (args : Arguments) (io : Traffic)
    : Type 0 where
  pub name : List ℕ
  pub named : args ≡ Ok (name ∷ words)
  pub left : io.source.left ≡ Some bytes
  pub holds : io.sink.held ≡ Some held
  pub faultless : NoFault io

-- ---- what comes out of it

-- this text was written, after what the output held, and sent on
pub record GoesOut (held t : List ℕ) (io : Traffic) : Type 0 where
  pub written : io.sink_after.held ≡ Some (held ++ t)
  pub sent : io.sink_after.pending ≡ false

-- the output holds what it held
abbrev pub NothingOut : List ℕ → Traffic → Type 0
NothingOut held io = io.sink_after.held ≡ Some held

-- a front of such a text was written
pub record FrontOut (Goes : List ℕ → Type 0) (held : List ℕ) (io : Traffic) : Type 0 where
  pub front : List ℕ
  pub rest : List ℕ
  pub goes : Goes (front ++ rest)
  pub written : io.sink_after.held ≡ Some (held ++ front)

-- what is written if memory runs out: nothing, or, if it was the output that ran out of memory, a front of such a text
abbrev pub CutShort : (List ℕ → Type 0) → List ℕ → Traffic → Type 0
CutShort Goes held io = NothingOut held io ⊎ FrontOut Goes held io

-- ---- how it ends

-- It ends with the exit code of a status, writes the line of that status to the error stream, and this holds.
pub record EndsSo (At : Status → Type 0) (name usage : List ℕ) (errors errors_after : SinkState) (code : ℕ) : Type 0
  where
    pub status : Status
    pub code_is : code ≡ code_of status
    pub says : Says name usage status errors errors_after
    pub told : At status

-- ---- scripts

-- the bytes are the text of this script, and no more than a script has
pub record Spells (s : Program) (bytes : List ℕ) : Type 0 where
  pub in_range : IsScript s
  pub bytes_are : bytes ≡ text s
  pub short : length bytes ≤ 4194304

-- No script has the bytes as its text. The first bad line is named, with the first reason that holds of it; all was
-- read, and nothing is written.
pub record IsRefused (refused : Refused) (bytes held : List ℕ) (io : Traffic) : Type 0 where
  pub none : (s : Program) → IsScript s → bytes ≡ text s → ⊥
  pub line : IsFirstBad bytes refused.line
  pub reason : reading every_word bytes ≡ Err refused
  pub read : io.source_after.left ≡ Some []
  pub short : length bytes ≤ 4194304
  pub nothing : NothingOut held io

-- how a program ends that reads a script and finds none; it ends in no other way, if memory does not run out
abbrev pub ToldNoScript : List ℕ → List ℕ → Traffic → Status → Type 0
ToldNoScript bytes held io (Status.Refused refused) = IsRefused refused bytes held io
ToldNoScript bytes held io Status.ScriptTooLong = (4194304 < length bytes) × NothingOut held io
ToldNoScript bytes held io status = ⊥

-- ---- any program

-- words that are none of the forms: the usage line is said, and nothing is read or written
abbrev pub ToldUsage : Traffic → Status → Type 0
ToldUsage io status = ((status ≡ Status.Usage) ⊎ (status ≡ Status.NoMemory)) × IsUntouched io

-- all was done, or memory ran out
abbrev pub IsDoneOrShort : Status → Type 0
IsDoneOrShort status = (status ≡ Status.Done) ⊎ (status ≡ Status.NoMemory)
