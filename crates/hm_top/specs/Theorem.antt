-- The theorem of the program hmmrun: what its user is told, for each word.
use Rattle.std.specs.Prelude.{◌≡◌, ◌⊎◌, ℕ, ◌<◌, ◌≤◌, Bool, true, false, List, [], length, Option, Some, None}
use Rattle.hm_base.specs.Program.{Program, IsScript}
use Rattle.hm_check.specs.FirstBad.{IsFirstBad}
use Rattle.hm_check.specs.Judging.{IsLegalReportOf}
use Rattle.hm_edge.specs.Exits.{Arguments, Exits}
use Rattle.hm_edge.specs.Traffic.{Traffic}
use Rattle.hm_edge.specs.Users.{CutShort, EndsSo, GoesOut, IsDoneOrShort, IsStarted, NothingOut, Spells}
use Rattle.hm_edge.specs.Users.{ToldNoScript, ToldUsage}
use Rattle.hm_edge.specs.declared.status.Status.{Status}
use Rattle.hm_history.specs.Kernel.Legal.{Legal}
use Rattle.hm_history.specs.Kernel.Overrun.{overruns}
use Rattle.hm_history.specs.Kernel.Run.{run}
use Rattle.hm_history.specs.declared.Entry.{Entry}
use Rattle.hm_io.specs.Streams.{SinkState}
use Rattle.hm_report.specs.Report.{report}
use Rattle.hm_report.specs.Summary.{summary}
use Rattle.hm_script.specs.Generator.{generated}
use Rattle.hm_script.specs.Spelling.{text}
use Rattle.hm_why.specs.Loads.{why_text}
use Rattle.hm_workers.specs.Peeking.{ArePeeks, IsPlain}
use Rattle.hm_workers.specs.declared.peeks.Peek.{Peek}
use Rattle.hm_world.specs.WorldValue.{HasDue}
use Rattle.hm_top.specs.Advises.{advice_on}
use Rattle.hm_top.specs.Checks.{HasReport, bad_line, legal_line}
use Rattle.hm_top.specs.Commands.{command_of}
use Rattle.hm_top.specs.Complete.{HasRoom}
use Rattle.hm_top.specs.Does.{Does}
use Rattle.hm_top.specs.Drained.{IsDone, IsDrained}
use Rattle.hm_top.specs.Generates.{HasMade, IsAlone, IsTried}
use Rattle.hm_top.specs.Peeks.{HasSeen, SawAll, peeked_text}
use Rattle.hm_top.specs.Running.{AnsweredNone, HasRun}
use Rattle.hm_top.specs.Runs.{Runs, name, usage}
use Rattle.hm_top.specs.RunsThreads.{HasReceipt, HasRunThreads}
use Rattle.hm_top.specs.Upgrades.{HasUpgraded, upgraded}
use Rattle.hm_top.specs.declared.command.Alone.{Alone}
use Rattle.hm_top.specs.declared.command.Command.{Command}
use Rattle.hm_top.specs.declared.ended.Ended.{Ended}

-- ---- words that run a script

-- the history is the run of the script's schedule, and legal; either every actor is done, if the schedule has a
-- `drain`, or a turn found an entry due and the history full
pub record RanByTurns (s : Program) (h : List Entry) (full : Bool) : Type 0 where
  pub run_is : h ≡ run s
  pub legal : Legal s h
  pub within : overruns s ≡ full
  pub done : full ≡ false → IsDrained s h
  pub stopped : full ≡ true → (length h ≡ 2000000) × HasDue s h

-- the history is legal; either every operation of every actor has ended, or an actor has an entry due and the history
-- is full
pub record RanFromThreads (s : Program) (h : List Entry) (full : Bool) : Type 0 where
  pub legal : Legal s h
  pub done : full ≡ false → (a : ℕ) → IsDone s h a
  pub stopped : full ≡ true → (length h ≡ 2000000) × HasDue s h

-- The bytes are the text of a script, which ran so, and what is told of that went out.
pub record TellsRun (Ran : Program → List Entry → Bool → Type 0) (tell : Program → List Entry → List ℕ)
    (bytes held : List ℕ) (io : Traffic) (full : Bool) : Type 0 where
  pub script : Program
  pub history : List Entry
  pub spells : Spells script bytes
  pub read : io.source_after.left ≡ Some []
  pub ran : Ran script history full
  pub out : GoesOut held (tell script history) io

-- the text tells of a run of a script with these bytes
pub record IsOfRun (Ran : Program → List Entry → Bool → Type 0) (tell : Program → List Entry → List ℕ)
    (bytes t : List ℕ) : Type 0 where
  pub script : Program
  pub history : List Entry
  pub in_range : IsScript script
  pub bytes_are : bytes ≡ text script
  pub full : Bool
  pub ran : Ran script history full
  pub text_is : t ≡ tell script history

-- by how it ends; it ends in no other way
abbrev pub ToldRun : (Program → List Entry → Bool → Type 0) → (Program → List Entry → List ℕ) → List ℕ → List ℕ
    → Traffic → Status → Type 0
ToldRun Ran tell bytes held io Status.Done = TellsRun Ran tell bytes held io false
ToldRun Ran tell bytes held io Status.HistoryFull = TellsRun Ran tell bytes held io true
ToldRun Ran tell bytes held io Status.NoMemory = CutShort (IsOfRun Ran tell bytes) held io
ToldRun Ran tell bytes held io status = ToldNoScript bytes held io status

-- `replay` and `advise`
pub record ToldByTurns (tell : Program → List Entry → List ℕ) (bytes held : List ℕ) (io : Traffic) (status : Status)
    : Type 0 where
  pub told : ToldRun RanByTurns tell bytes held io status
  -- A script whose history has room is run to its end, unless memory runs out.
  pub sure : (s : Program) → Spells s bytes → HasRoom s → IsDoneOrShort status

-- `threads` and `race`
pub record ToldFromThreads (bytes held : List ℕ) (io : Traffic) (status : Status) : Type 0 where
  pub told : ToldRun RanFromThreads report bytes held io status
  -- A script is run, unless memory runs out.
  pub sure : (s : Program) → Spells s bytes → IsDoneOrShort status ⊎ (status ≡ Status.HistoryFull)

-- `peek`: the report of such a run, with what a watcher saw of the bytes
pub record TellsPeeks (p at n : ℕ) (bytes held : List ℕ) (io : Traffic) : Type 0 where
  pub peeks : List Peek
  pub run : TellsRun RanFromThreads (peeked_text peeks) bytes held io false
  pub saw : SawAll p at n run.history peeks

-- the text tells of such a run, and of peeks that are right
pub record IsOfPeeks (p at n : ℕ) (bytes t : List ℕ) : Type 0 where
  pub peeks : List Peek
  pub run : IsOfRun RanFromThreads (peeked_text peeks) bytes t
  pub right : ArePeeks p at n (IsPlain run.history) peeks

-- by how it ends; of a run whose history got full no peek is told
abbrev pub ToldPeeks : ℕ → ℕ → ℕ → List ℕ → List ℕ → Traffic → Status → Type 0
ToldPeeks p at n bytes held io Status.Done = TellsPeeks p at n bytes held io
ToldPeeks p at n bytes held io Status.HistoryFull =
    TellsRun RanFromThreads (peeked_text []) bytes held io true
ToldPeeks p at n bytes held io Status.NoMemory = CutShort (IsOfPeeks p at n bytes) held io
ToldPeeks p at n bytes held io status = ToldNoScript bytes held io status

-- `peek`
pub record ToldPeeking (p at n : ℕ) (bytes held : List ℕ) (io : Traffic) (status : Status) : Type 0 where
  pub told : ToldPeeks p at n bytes held io status
  pub sure : (s : Program) → Spells s bytes → IsDoneOrShort status ⊎ (status ≡ Status.HistoryFull)

-- ---- words that run nothing, or a script of their own

-- `generate`, `trial`: nothing is read, and this text goes out; it ends in no other way
abbrev pub ToldText : List ℕ → List ℕ → Traffic → Status → Type 0
ToldText t held io Status.Done = (io.source_after ≡ io.source) × GoesOut held t io
ToldText t held io Status.NoMemory = (io.source_after ≡ io.source) × CutShort (λ u. u ≡ t) held io
ToldText t held io status = ⊥

-- the bytes are the text of a script, and its text in version 2 went out
pub record TellsUpgrade (bytes held : List ℕ) (io : Traffic) : Type 0 where
  pub script : Program
  pub spells : Spells script bytes
  pub read : io.source_after.left ≡ Some []
  pub out : GoesOut held (text (upgraded script)) io

-- the text is that of a script with these bytes, in version 2
pub record IsOfUpgrade (bytes t : List ℕ) : Type 0 where
  pub script : Program
  pub in_range : IsScript script
  pub bytes_are : bytes ≡ text script
  pub text_is : t ≡ text (upgraded script)

-- by how it ends; it ends in no other way
abbrev pub ToldUpgrade : List ℕ → List ℕ → Traffic → Status → Type 0
ToldUpgrade bytes held io Status.Done = TellsUpgrade bytes held io
ToldUpgrade bytes held io Status.NoMemory = CutShort (IsOfUpgrade bytes) held io
ToldUpgrade bytes held io status = ToldNoScript bytes held io status

-- `upgrade`
pub record ToldUpgrading (bytes held : List ℕ) (io : Traffic) (status : Status) : Type 0 where
  pub told : ToldUpgrade bytes held io status
  pub sure : (s : Program) → Spells s bytes → IsDoneOrShort status

-- ---- words that read a report

-- The bytes are the report of a script and a legal history, and of no others, and what is said of that went out.
pub record TellsLegalReport (say : List Entry → List ℕ) (bytes held : List ℕ) (io : Traffic) : Type 0 where
  pub script : Program
  pub history : List Entry
  pub is : IsLegalReportOf script history bytes
  pub alone : (c : Program) (h : List Entry) → IsLegalReportOf c h bytes → (c ≡ script) × (h ≡ history)
  pub short : length bytes ≤ 268435456
  pub read : io.source_after.left ≡ Some []
  pub out : GoesOut held (say history) io

-- The bytes are no legal report, and the line on their first bad line went out.
pub record TellsBadReport (line : ℕ) (bytes held : List ℕ) (io : Traffic) : Type 0 where
  pub first : IsFirstBad bytes line
  pub none : (c : Program) (h : List Entry) → IsLegalReportOf c h bytes → ⊥
  pub short : length bytes ≤ 268435456
  pub read : io.source_after.left ≡ Some []
  pub out : GoesOut held (bad_line line) io

-- the text is what is said of the legal report that the bytes are, or of their first bad line
abbrev pub IsOfReport : (List Entry → List ℕ) → List ℕ → List ℕ → Type 0
IsOfReport say bytes t =
    ((c : Program) × (h : List Entry) × IsLegalReportOf c h bytes × (t ≡ say h))
    ⊎ ((line : ℕ) × IsFirstBad bytes line × (t ≡ bad_line line))

-- by how it ends; it ends in no other way
abbrev pub ToldReport : (List Entry → List ℕ) → List ℕ → List ℕ → Traffic → Status → Type 0
ToldReport say bytes held io Status.Done = TellsLegalReport say bytes held io
ToldReport say bytes held io (Status.NotLegal line) = TellsBadReport line bytes held io
ToldReport say bytes held io Status.ReportTooLong = (268435456 < length bytes) × NothingOut held io
ToldReport say bytes held io Status.NoMemory = CutShort (IsOfReport say bytes) held io
ToldReport say bytes held io status = ⊥

-- `check` and `why`
pub record ToldChecking (say : List Entry → List ℕ) (bytes held : List ℕ) (io : Traffic) (status : Status) : Type 0
  where
    pub told : ToldReport say bytes held io status
    -- There is a verdict on bytes that are not too many, unless memory runs out.
    pub sure : length bytes ≤ 268435456
        → IsDoneOrShort status ⊎ ((line : ℕ) × (status ≡ Status.NotLegal line))

-- ---- all words

-- by the words after the program's name; if they are none of the forms, nothing is read or written
abbrev pub ToldBy : Option Command → List ℕ → List ℕ → Traffic → Status → Type 0
ToldBy None bytes held io status = ToldUsage io status
ToldBy (Some (Command.Alone Alone.Replay)) bytes held io status = ToldByTurns report bytes held io status
ToldBy (Some (Command.Alone Alone.Advise)) bytes held io status = ToldByTurns advice_on bytes held io status
ToldBy (Some (Command.Alone (Alone.Generate n))) bytes held io status =
    ToldText (text (generated n)) held io status
ToldBy (Some (Command.Alone (Alone.Trial n))) bytes held io status =
    ToldText (summary n (generated n) (run (generated n))) held io status
ToldBy (Some (Command.Alone Alone.Upgrade)) bytes held io status = ToldUpgrading bytes held io status
ToldBy (Some (Command.Alone Alone.Check)) bytes held io status =
    ToldChecking (λ h. legal_line (length h)) bytes held io status
ToldBy (Some (Command.Alone Alone.Why)) bytes held io status = ToldChecking why_text bytes held io status
ToldBy (Some (Command.Threads begin)) bytes held io status = ToldFromThreads bytes held io status
ToldBy (Some (Command.Peek asked)) bytes held io status =
    ToldPeeking asked.proc asked.addr asked.len bytes held io status

-- Whoever starts the program with words after its name, an input and an output that do not fail, is told this.
abbrev pub Theorem : Type 0
Theorem = (words : List (List ℕ)) (bytes held : List ℕ) (args : Arguments) (io : Traffic)
    (errors errors_after : SinkState) (code : ℕ) → IsStarted words bytes held args io
    → Exits Runs name usage args io errors errors_after code
    → EndsSo (ToldBy (command_of words) bytes held io) name usage errors errors_after code

-- ---- what a caller of `run` is told beside that

-- what the answer has, by what was asked for: the script and the history, the receipt of a run from threads, peeks
abbrev pub AnswersSo : Option Command → Ended → Type 0
AnswersSo None ended = AnsweredNone ended.script ended.history.entries × (ended.receipt ≡ None)
AnswersSo (Some (Command.Alone Alone.Replay)) ended =
    HasRun ended.script ended.history.entries ended.status × (ended.receipt ≡ None)
AnswersSo (Some (Command.Alone Alone.Advise)) ended =
    HasRun ended.script ended.history.entries ended.status × (ended.receipt ≡ None)
AnswersSo (Some (Command.Alone (Alone.Generate n))) ended =
    HasMade (IsAlone (generated n)) ended.script ended.history.entries ended.status × (ended.receipt ≡ None)
AnswersSo (Some (Command.Alone (Alone.Trial n))) ended =
    HasMade (IsTried (generated n)) ended.script ended.history.entries ended.status × (ended.receipt ≡ None)
AnswersSo (Some (Command.Alone Alone.Upgrade)) ended =
    HasUpgraded ended.script ended.status × (ended.history.entries ≡ []) × (ended.receipt ≡ None)
AnswersSo (Some (Command.Alone Alone.Check)) ended =
    HasReport ended.script ended.history.entries ended.status × (ended.receipt ≡ None)
AnswersSo (Some (Command.Alone Alone.Why)) ended =
    HasReport ended.script ended.history.entries ended.status × (ended.receipt ≡ None)
AnswersSo (Some (Command.Threads begin)) ended =
    HasRunThreads ended.script ended.history.entries ended.status
    × HasReceipt ended.receipt ended.history.entries ended.status
AnswersSo (Some (Command.Peek asked)) ended =
    HasRunThreads ended.script ended.history.entries ended.status
    × HasReceipt ended.receipt ended.history.entries ended.status
    × HasSeen asked.proc asked.addr asked.len ended.script ended.history.entries ended.peeks ended.status

-- so of each call
abbrev pub Answers : Type 0
Answers = (command : Option Command) (io : Traffic) (ended : Ended) → Does command io ended → AnswersSo command ended
