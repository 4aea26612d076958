-- What the gates decide by what they have read.
use Rattle.std.specs.Prelude.{◌≡◌, ◌≢◌, ◌⊎◌, ℕ, ◌-◌, ◌/◌, ◌^◌, ◌<◌, ◌≤◌, ◌||◌, ◌==◌, Bool, bit_and, Option, Some, None}
use Rattle.std.specs.Prelude.{if◌then◌else◌}
use Rattle.std.specs.Int.{bit_at, bit_not, w64}
use Rattle.hm_base.specs.declared.ops.ScheduleLine.{ScheduleLine}
use Rattle.hm_workers.specs.declared.places.Change.{Change}
use Rattle.hm_workers.specs.declared.places.Hand.{Hand}
use Rattle.hm_workers.specs.declared.places.Places.{Places}
use Rattle.hm_workers.specs.declared.staged.Answer.{Answer}
use Rattle.hm_workers.specs.declared.staged.Stint.{Stint}

-- ---- the gate that makes a schedule's turns first

-- the turns of a line of a schedule; none of a drain
abbrev pub stint_of : ScheduleLine → Option Stint
stint_of (ScheduleLine.Run actor count) = Some (record { actor = actor; count = count })
stint_of ScheduleLine.Drain = None

-- whether the set has the bit of the actor with this number
abbrev pub has_bit : ℕ → ℕ → Bool
has_bit set number = bit_and (set / 2 ^ number) 1 == 1

-- whether turns are passed over: there are none, or their actor is in the set of those that have ended
abbrev pub is_passed : ℕ → Stint → Bool
is_passed ended s = (s.count == 0) || has_bit ended s.actor

-- what the turns that are made say to an actor that asks: only their own actor goes, and anybody if there are none
abbrev pub answer_to : Option Stint → ℕ → Answer
answer_to None actor = Answer.IsFree
answer_to (Some s) actor = if s.actor == actor then Answer.Goes else Answer.Waits

-- ---- the gate that mixes

-- the set has the bit of the actor in this place
abbrev pub IsIn : ℕ → ℕ → Type 0
IsIn set place = (0 < place) × (place ≤ 64) × (bit_at set (place - 1) ≡ 1)

-- those that wait and may go: that are not held, or all if all are
abbrev pub free : Places → ℕ
free p = if bit_and p.waiting (bit_not w64 p.held) == 0 then p.waiting else bit_and p.waiting (bit_not w64 p.held)

-- the one that went lets another go: one that waits if any does, and the one that is named if that one waits
pub record IsHanded (old : Places) (hand : Hand) (new : Places) : Type 0 where
  pub from : old.goes ≡ hand.from
  pub somebody : 0 < old.waiting → IsIn old.waiting new.goes
  pub named : IsIn old.waiting hand.to → new.goes ≡ hand.to
  pub held : new.held ≡ old.held

-- one that waits was called to look, and nothing else has changed
pub record IsCalled (old : Places) (place : ℕ) (new : Places) : Type 0 where
  pub waits : IsIn old.waiting place
  pub same : new ≡ record old { called = place }

-- the one that was called has come: it looks if no other does, and nothing else has changed
pub record HasCome (old : Places) (place : ℕ) (new : Places) : Type 0 where
  pub called : old.called ≡ place
  pub looks : old.looking ≢ 0 → new.looking ≡ old.looking
  pub same : new ≡ record old { called = 0; looking = new.looking }

-- what a change leaves
abbrev pub Changes : Places → Change → Places → Type 0
Changes old (Change.Hand hand) new = IsHanded old hand new
Changes old (Change.Call place) new = IsCalled old place new
Changes old (Change.Come place) new = HasCome old place new

-- why a change is not made: another goes, or nobody waits for whom the one that goes would wait; the one in this place
-- is called already, or does not wait; or was not called, or goes
abbrev pub IsNotMade : Places → Change → Type 0
IsNotMade p (Change.Hand hand) = (p.goes ≢ hand.from) ⊎ ((p.waiting ≡ 0) × (hand.stays ≢ 0))
IsNotMade p (Change.Call place) = (p.called ≡ place) ⊎ (IsIn p.waiting place → ⊥)
IsNotMade p (Change.Come place) = (p.called ≢ place) ⊎ (p.goes ≡ place)
