-- What a turn makes of a machine, and a schedule's turns in order.
use Rattle.std.specs.Prelude.{◌≡◌, ℕ, ◌<◌, Bool, true, false, not, ◌&&◌, Option, Some, None, Result, Ok, Err, List}
use Rattle.std.specs.Prelude.{length, ⊤}
use mathlib.Core.List.{IsPrefix}
use Rattle.hm_history.specs.Kernel.Due.{due}
use Rattle.hm_history.specs.Kernel.Run.{has_room, added, is_entry}
use Rattle.hm_history.specs.declared.Entry.{Entry}
use Rattle.hm_history.specs.declared.Progress.{Progress}
use Rattle.hm_history.specs.declared.Progress.TheVariants.{Did, Waiting, Idle}
use Rattle.hm_history.specs.declared.StepError.{StepError}
use Rattle.hm_history.specs.declared.StepError.TheVariants.{Full, NoMemory}
use Rattle.hm_world.specs.WorldValue.{WorldValue, grown, halted_by}
use Rattle.hm_machine.specs.declared.Turn.{Turn}
use Rattle.hm_machine.specs.declared.Turn.TheVariants as turn_is

-- a turn at which this is due: the entry is added, or the wait is told, or there is none; a full history takes no entry
abbrev pub TurnsTo : WorldValue → Progress → Result Turn StepError → WorldValue → Type 0
TurnsTo t (Did e) (Ok turn_is.Did) u = (u ≡ grown t e.actor e.kind) × (length t.history < 2000000)
TurnsTo t (Waiting why) (Ok (turn_is.Waiting w)) u = (w ≡ why) × (u ≡ t)
TurnsTo t Idle (Ok turn_is.Idle) u = u ≡ t
TurnsTo t (Did e) (Err (Full n)) u = (n ≡ 2000000) × (length t.history ≡ 2000000) × (u ≡ halted_by t (Full n))
TurnsTo t p (Err NoMemory) u = u ≡ halted_by t NoMemory
TurnsTo t p r u = ⊥

-- a machine that is halted stays as it is, and answers why
abbrev pub TurnsFrom : Option StepError → WorldValue → Progress → Result Turn StepError → WorldValue → Type 0
TurnsFrom None t p r u = TurnsTo t p r u
TurnsFrom (Some e) t p r u = (r ≡ Err e) × (u ≡ t)

-- what a turn of an actor makes of a machine, and what it answers
abbrev pub Turned : WorldValue → ℕ → Result Turn StepError → WorldValue → Type 0
Turned t a r u = TurnsFrom t.halted t (due t.script t.history a) r u

-- the machine with another history
abbrev pub with_history : WorldValue → List Entry → WorldValue
with_history t h = record t { history = h }

-- a turn of a machine that goes on, at which this is due, and whether the next of the same actor can add an entry
abbrev pub AddsTo : WorldValue → Progress → Result Bool StepError → WorldValue → Type 0
AddsTo t p (Ok more) u =
    (u ≡ with_history t (added t.history p)) × ((is_entry p && not (has_room t.history)) ≡ false)
    × (more ≡ false → is_entry p ≡ false)
AddsTo t p (Err (Full n)) u =
    (n ≡ 2000000) × (length t.history ≡ 2000000) × ((is_entry p && not (has_room t.history)) ≡ true)
    × (u ≡ halted_by t (Full n))
AddsTo t p (Err NoMemory) u = u ≡ halted_by t NoMemory

-- what a turn of an actor makes of a machine, and whether the actor's next turn may add an entry
abbrev pub Adds : WorldValue → ℕ → Result Bool StepError → WorldValue → Type 0
Adds t a r u = AddsTo t (due t.script t.history a) r u

-- memory ran out on the way to this history: what the turns before have added is kept
pub record StoppedShort (t : WorldValue) (h : List Entry) (u : WorldValue) : Type 0 where
  pub same : u ≡ halted_by (with_history t u.history) NoMemory
  pub later : IsPrefix t.history u.history
  pub front : IsPrefix u.history h

-- it came to this history, with no turn beyond a full one, or with one; or memory ran out on the way
abbrev pub CameTo : WorldValue → List Entry → Bool → Result ⊤ StepError → WorldValue → Type 0
CameTo t h beyond (Ok x) u = (u ≡ with_history t h) × (beyond ≡ false)
CameTo t h beyond (Err (Full n)) u =
    (n ≡ 2000000) × (length h ≡ 2000000) × (u ≡ halted_by (with_history t h) (Full n)) × (beyond ≡ true)
CameTo t h beyond (Err NoMemory) u = StoppedShort t h u
