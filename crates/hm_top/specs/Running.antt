-- What a call has run, by how it ended.
use Rattle.std.specs.Prelude.{◌≡◌, ◌⊎◌, ℕ, true, false, List, [], length, Option, Some, None}
use Rattle.hm_base.specs.Program.{Program}
use Rattle.hm_history.specs.Kernel.Legal.{Legal}
use Rattle.hm_history.specs.Kernel.Overrun.{overruns}
use Rattle.hm_history.specs.Kernel.Run.{run}
use Rattle.hm_history.specs.declared.Entry.{Entry}
use Rattle.hm_world.specs.WorldValue.{HasDue}
use Rattle.hm_top.specs.Drained.{IsDrained}
use Rattle.hm_edge.specs.declared.status.Status.{Status}

-- the history is the script's run, and legal for it
pub record IsRun (s : Program) (h : List Entry) : Type 0 where
  pub run_is : h ≡ run s  -- its schedule's turns in order, each adding what is due
  pub legal : Legal s h  -- every entry may follow those before it

-- no turn found an entry due and the history full; and every actor is done, if the schedule has a `drain`
pub record RanWhole (s : Program) (h : List Entry) : Type 0 where
  pub ran : IsRun s h
  pub within : overruns s ≡ false
  pub drained : IsDrained s h

-- a turn found an entry due and the history full
pub record RanFull (s : Program) (h : List Entry) : Type 0 where
  pub ran : IsRun s h
  pub beyond : overruns s ≡ true
  pub full : length h ≡ 2000000
  pub has_due : HasDue s h

-- one of the two
abbrev pub RanSo : Program → List Entry → Type 0
RanSo s h = RanWhole s h ⊎ RanFull s h

-- this holds of the script and the history in the answer
abbrev pub Answered : (Program → List Entry → Type 0) → Option Program → List Entry → Type 0
Answered Is None h = ⊥
Answered Is (Some s) h = Is s h

-- the answer has no script, and no history
pub record AnsweredNone (script : Option Program) (h : List Entry) : Type 0 where
  pub script_is : script ≡ None
  pub history_is : h ≡ []

-- what was run
abbrev pub HasRun : Option Program → List Entry → Status → Type 0
HasRun script h Status.Done = Answered RanWhole script h
HasRun script h Status.HistoryFull = Answered RanFull script h
HasRun script h Status.WriteFault = Answered RanSo script h
HasRun script h (Status.NotLegal n) = ⊥
HasRun script h _ = AnsweredNone script h

-- what goes out of a run, by what is said of one
abbrev pub told_of : (Program → List Entry → List ℕ) → Option Program → List Entry → List ℕ
told_of tell None h = []
told_of tell (Some s) h = tell s h
