-- Calls that are sure to come to their end.
use Rattle.std.specs.Prelude.{◌≡◌, ◌⊎◌, ℕ, ◌+◌, ◌≤◌, false, List, [], ◌∷◌, length}
use Rattle.hm_base.specs.declared.limits.TheConstants.{MOST_SCRIPT_BYTES}
use Rattle.hm_base.specs.Program.{Program}
use Rattle.hm_base.specs.declared.ops.ScheduleLine.{ScheduleLine}
use Rattle.hm_history.specs.Kernel.Overrun.{overruns}
use Rattle.hm_io.specs.Streams.{Rose}
use Rattle.hm_quiet_laws.specs.Quiet.{IsDrainAlone}
use Rattle.hm_script.specs.Built.{has_drain}
use Rattle.hm_edge.specs.Reading.{IsTextOf}
use Rattle.hm_edge.specs.Traffic.{Traffic}
use Rattle.hm_edge.specs.declared.status.Status.{Status}

-- the turns of a schedule, those of a `drain` left out
abbrev pub turn_count : List ScheduleLine → ℕ
turn_count [] = 0
turn_count (ScheduleLine.Run a n ∷ ls) = n + turn_count ls
turn_count (ScheduleLine.Drain ∷ ls) = turn_count ls

-- the schedule has no `drain`, and no more turns than a history has entries
pub record HasFewTurns (s : Program) : Type 0 where
  pub no_drain : has_drain s.schedule ≡ false
  pub few : turn_count s.schedule ≤ 2000000

-- no turn finds the history full and an entry due: by itself, or since the schedule is `drain` alone and the bounds of
-- its operations leave room, or since the schedule has so few turns
abbrev pub HasRoom : Program → Type 0
HasRoom s = (overruns s ≡ false) ⊎ (IsDrainAlone s ⊎ HasFewTurns s)

-- all was done, or memory ran out
abbrev pub IsComplete : Status → Type 0
IsComplete Status.Done = Unit {0}
IsComplete Status.NoMemory = Unit {0}
IsComplete _ = ⊥
