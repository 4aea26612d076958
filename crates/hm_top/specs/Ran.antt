-- What a machine's replay comes to, and how a call ends that shows a run.
use Rattle.std.specs.Prelude.{◌≡◌, Bool, true, false, List, Some, None}
use Rattle.hm_base.specs.Program.{Program}
use Rattle.hm_history.specs.Kernel.Overrun.{overruns}
use Rattle.hm_history.specs.Kernel.Run.{run}
use Rattle.hm_history.specs.declared.Entry.{Entry}
use Rattle.hm_history.specs.declared.StepError.{StepError}
use Rattle.hm_report.specs.declared.written.Written.{Written}
use Rattle.hm_world.specs.WorldValue.{WorldValue}
use Rattle.hm_top.specs.Running.{AnsweredNone}
use Rattle.hm_top.specs.declared.ended.Ended.{Ended}
use Rattle.hm_top.specs.declared.schedule.Ran.{Ran}
use Rattle.hm_edge.specs.declared.status.Status.{Status}

-- a machine after its schedule's turns, and whether one of them found an entry due and the history full
pub record Replayed (before after : WorldValue) (full : Bool) : Type 0 where
  pub script : after.script ≡ before.script
  pub history : after.history ≡ run before.script
  pub beyond : overruns before.script ≡ full
  pub halted : full ≡ true → after.halted ≡ Some (StepError.Full 2000000)

-- the answer has what ran
pub record HasAll (ran : Ran) (ended : Ended) : Type 0 where
  pub script_is : ended.script ≡ Some ran.script
  pub history_is : ended.history.entries ≡ ran.history.entries
  pub receipt_is : ended.receipt ≡ ran.receipt

-- the answer has nothing
pub record HasNothing (ended : Ended) : Type 0 where
  pub none : AnsweredNone ended.script ended.history.entries
  pub receipt_is : ended.receipt ≡ None

-- how a call ends that writes a text of what ran
abbrev pub ShowsAt : Ran → Ended → Status → Type 0
ShowsAt ran ended Status.Done = (ran.full ≡ false) × HasAll ran ended
ShowsAt ran ended Status.HistoryFull = (ran.full ≡ true) × HasAll ran ended
ShowsAt ran ended Status.WriteFault = HasAll ran ended
ShowsAt ran ended Status.NoMemory = HasNothing ended
ShowsAt ran ended _ = ⊥

-- the status of a call whose text of what ran was written so
abbrev pub shown_status : Written → Bool → Status
shown_status Written.Done false = Status.Done
shown_status Written.Done true = Status.HistoryFull
shown_status Written.Fault full = Status.WriteFault
shown_status Written.NoMemory full = Status.NoMemory

-- how a call ends that writes a text of what ran, at the status that it has
abbrev pub Shows : Ran → Ended → Type 0
Shows ran ended = ShowsAt ran ended ended.status

-- the script and the history are those that ran
abbrev pub IsRan : Ran → Program → List Entry → Type 0
IsRan ran s h = (s ≡ ran.script) × (h ≡ ran.history.entries)
