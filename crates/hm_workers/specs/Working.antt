-- What the workers do with the passes.
use Rattle.std.specs.Prelude.{◌≡◌, ◌⊎◌, ℕ, suc, ◌+◌, ◌-◌, ◌^◌, ◌<◌, ◌≤◌, min, true, List, [], ◌∷◌, length, slice_get}
use Rattle.std.specs.Prelude.{Some}
use Rattle.hm_base.specs.Program.{Program}
use Rattle.hm_history.specs.declared.Entry.{Entry}
use Rattle.hm_history.specs.declared.Progress.{Progress}
use Rattle.hm_history.specs.declared.Progress.TheVariants.{Did, Waiting, Idle}
use Rattle.hm_turns.specs.Stepping.{is_halted}
use Rattle.hm_turns.specs.Sights.{Desk, Sight, GoesOn, TurnsTo}
use Rattle.hm_turns.specs.declared.turn.Turn.{Turn}
use Rattle.hm_turns.specs.declared.turn.Turn.TheVariants.{Busy, Stopped, Halted, Did as Answered}
use Rattle.hm_workers.specs.declared.workers.Job.{Job}
use Rattle.hm_workers.specs.declared.workers.AfterTry.{AfterTry}
use Rattle.hm_workers.specs.declared.workers.AfterTry.TheVariants.{Added, Again, Done}

-- after the list of the pass the actor's operations have ended, or the pass was told of a halt
abbrev pub IsDone : (Program → List Entry → ℕ → Progress) → ℕ → Sight → Type 0
IsDone due actor p = (due p.desk.script p.list actor ≡ Idle) ⊎ (is_halted p.told ≡ true)

-- what a worker makes of its pass
abbrev pub Works : (Program → List Entry → ℕ → Progress) → ℕ → Sight → Sight → Type 0
Works due actor old new = GoesOn old new × IsDone due actor new

-- what a turn's answer leads to: an entry was added; or nothing was, and there is more to do; or the actor has no
-- operation left, or a halt was told
abbrev pub next_of : Turn → AfterTry
next_of (Answered (Did e)) = Added
next_of (Answered (Waiting why)) = Again
next_of (Answered Idle) = Done
next_of Busy = Again
next_of (Stopped e) = Done
next_of Halted = Done

-- a try of a worker: a turn, and what its answer leads to; or the gate was closed, and nothing was done
abbrev pub IsTried : (Program → List Entry → Type 0) → (Program → List Entry → ℕ → Progress) → ℕ → Sight → AfterTry
    → Sight → Type 0
IsTried legal due actor old next new =
    ((t : Turn) × TurnsTo legal due actor old t new × (next ≡ next_of t)) ⊎ ((new ≡ old) × (next ≡ Again))

-- the pass goes on, and has this many entries more of its own
abbrev pub GoesBy : ℕ → Sight → Sight → Type 0
GoesBy n old new = GoesOn old new × (length new.own ≡ length old.own + n)

-- what one try of a worker leaves
abbrev pub Tries : (Program → List Entry → ℕ → Progress) → ℕ → Sight → AfterTry → Sight → Type 0
Tries due actor old Added new = GoesBy 1 old new
Tries due actor old Again new = GoesBy 0 old new
Tries due actor old Done new = Works due actor old new

-- this many entries were added with a pass since it was the first, as far as a u64 counts
pub record IsAdded (first now : Sight) (n : ℕ) : Type 0 where
  pub more : length first.own ≤ length now.own
  pub count : n ≡ min (length now.own - length first.own) (2 ^ 64 - 1)

-- all passes are of this value
abbrev pub AreOf : Desk → List Sight → Type 0
AreOf desk passes = (i : ℕ) (p : Sight) → slice_get passes i ≡ Some p → p.desk ≡ desk

-- the passes with the numbers of their actors, from n on
abbrev pub numbered : ℕ → List Sight → List Job
numbered n [] = []
numbered n (p ∷ ps) = record { actor = n; pass = p } ∷ numbered (suc n) ps

-- a worker may take this job
abbrev pub IsJobOf : Desk → Job → Type 0
IsJobOf desk j = (j.pass.desk ≡ desk) × (j.actor < length desk.script.actors)

-- what a worker makes of its job: its actor's operations end, with the pass that it got
abbrev pub DoesJob : (Program → List Entry → ℕ → Progress) → Job → Sight → Type 0
DoesJob due j p = Works due j.actor j.pass p

-- each worker has worked with the pass in its place
pub record AllWork (due : Program → List Entry → ℕ → Progress) (old new : List Sight) : Type 0 where
  pub count : length new ≡ length old
  pub each : (i : ℕ) (p q : Sight) → slice_get old i ≡ Some p → slice_get new i ≡ Some q → Works due i p q
