-- What a call comes to: what was read, and what was written of the races of drivers that leave a rule out.
use Rattle.std.specs.Prelude.{◌≡◌, ◌⊎◌, true, false, List, ℕ, Result, Ok, Err, IfSome}
use Rattle.hm_base.specs.Program.{Program}
use Rattle.hm_flaw_parts.specs.Judged.{judged_parts}
use Rattle.hm_flaw_top.specs.Text.Tasks.{task_in}
use Rattle.hm_flaw_top.specs.declared.text.task.BadWord.{BadWord}
use Rattle.hm_flaw_top.specs.declared.text.task.Task.{Task}
use Rattle.hm_history.specs.Kernel.Run.{run}
use Rattle.hm_history.specs.declared.StepError.{StepError}
use Rattle.hm_io.specs.Streams.{SinkState}
use Rattle.hm_edge.specs.Reading.{IsGiven, IsTextOf, ReadAs, ReadFaulted}
use Rattle.hm_edge.specs.Traffic.{NoFault, Traffic}
use Rattle.hm_edge.specs.Writing.{WriteFaulted}
use Rattle.hm_edge.specs.declared.status.RaceEnd.{RaceEnd}
use Rattle.hm_edge.specs.declared.status.Status.{Status}
use Rattle.hm_race_top.specs.Run.Known.{MayFail}
use Rattle.hm_race_top.specs.Races.{HasRefused, HasStopped, IsSure}
use Rattle.hm_race_top.specs.Telling.{HasTold, IsSentOn}
use Rattle.hm_race_top.specs.declared.telling.Telling.{Telling}
use Rattle.hm_script.specs.Built.{has_drain}
use Rattle.hm_flaw_top.specs.Told.{FlawsMayFail, Tells}

-- The races of the drivers that are asked for were searched, with the script's run as the set-up, and this was
-- written.
pub record Found (task : Task) (c : Program) (before after : SinkState) (status : Status) : Type 0 where
  pub telling : Telling
  -- It is what the searches have shown: of one driver what was found, of all drivers a line for each.
  pub tells : Tells task.which (judged_parts task.judging) task.most c (run c) telling
  -- The bytes written are its text, and the call ends as it says; at `WriteFault` and `NoMemory` a front of them.
  pub written : HasTold telling before after status
  -- The schedule of the script does not end in `drain`.
  pub races : has_drain c.schedule ≡ false

-- why a call fails that has read a script: its run fails, or a search
abbrev pub MayStop : Task → Program → StepError → Type 0
MayStop task c e = MayFail c (run c) e ⊎ FlawsMayFail task.which (judged_parts task.judging) c (run c) e

-- how a call ends that has read a script, and what it has written; it ends in no other way
abbrev pub HasFound : Task → Program → SinkState → SinkState → Status → Type 0
HasFound task c before after Status.Done = Found task c before after Status.Done
HasFound task c before after (Status.Race RaceEnd.Broken) = Found task c before after (Status.Race RaceEnd.Broken)
HasFound task c before after (Status.Race RaceEnd.Open) = Found task c before after (Status.Race RaceEnd.Open)
HasFound task c before after (Status.Race RaceEnd.Drained) = (has_drain c.schedule ≡ true) × (after ≡ before)
HasFound task c before after Status.WriteFault = Found task c before after Status.WriteFault
HasFound task c before after Status.NoMemory = (after ≡ before) ⊎ Found task c before after Status.NoMemory
HasFound task c before after Status.HistoryFull = MayStop task c (StepError.Full 2000000) × (after ≡ before)
HasFound task c before after _ = ⊥

-- a script was read, and the races of drivers were searched
pub record Searched (task : Task) (io : Traffic) (status : Status) : Type 0 where
  pub script : Program
  pub read : ReadAs 4194304 (IsTextOf script) io.source io.source_after
  pub found : HasFound task script io.sink io.sink_after status

-- A script is read, and what is asked for is written of its races.
pub record Searches (task : Task) (io : Traffic) (status : Status) : Type 0 where
  -- One of the two. A script is refused if and only if no script has the bytes as its text.
  pub seen : Searched task io status ⊎ HasStopped io status
  -- `ReadFault` comes only if the source counted a fault, and `WriteFault` if the sink did.
  pub read_faults : ReadFaulted io.source.faults io.source_after.faults status
  pub write_faults : WriteFaulted io.sink.faults io.sink_after.faults status
  -- If the text went out whole, the sink sent all of it on.
  pub flushed : IsSentOn io.sink_after.pending status
  -- If neither stream counted a fault, and the bytes are the text of a script.
  pub sure : NoFault io → IfSome io.source.left (λ bytes. (s : Program) → IsGiven s bytes → IsSure status)

-- by what the words ask for; if a word is bad, nothing was read, and nothing written
abbrev pub WithoutsBy : Result Task BadWord → Traffic → Status → Type 0
WithoutsBy (Ok task) io status = Searches task io status
WithoutsBy (Err bad) io status = HasRefused io status

-- by the words after the program's name
abbrev pub Withouts : List (List ℕ) → Traffic → Status → Type 0
Withouts words = WithoutsBy (task_in words)
