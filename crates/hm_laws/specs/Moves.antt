-- What an actor knows of a frame that it empties, from the freezing of its pages to their return.
use Rattle.std.specs.Prelude.{◌≡◌, ℕ, ◌<◌, ◌*◌, ◌⊎◌, Option, Some, None}
use Rattle.hm_base.specs.declared.Frame.{Frame}
use Rattle.hm_base.specs.declared.Place.{Place}
use Rattle.hm_history.specs.Memory.Words.{names_directly, moving_frame}
use Rattle.hm_history.specs.Memory.After.{After}
use Rattle.hm_laws.specs.Stood.{stood, Unstood}
use Rattle.hm_laws.specs.Allowed.{AllMoving}

-- the first parts of a frame were copied, an eighth each
abbrev pub Parts : After → Frame → Frame → ℕ → Type 0
Parts s f g k = (o : ℕ) → o < 4096 → o < 512 * k → s.contents g o ≡ s.contents f o

-- it was committed to another frame: its pages are to come back there, and those that have are there
pub record Returning (place : ℕ → ℕ → Place) (to : Frame → Option Frame) (lock : Frame → Option ℕ) (a : ℕ)
    (f g : Frame) : Type 0 where
  pub mine : lock f ≡ Some a
  pub moved : to f ≡ Some g
  pub frozen : AllMoving place f
  pub unstood : Unstood place to f
  pub dest : lock g ≡ Some a
  pub fresh : to g ≡ None
  pub lands : (q u : ℕ) → moving_frame (place q u) ≡ Some g → ⊥
  pub stood_by : (q u : ℕ) → stood to (place q u) ≡ Some g
      → (moving_frame (place q u) ≡ Some f) ⊎ (names_directly (place q u) ≡ Some g)

-- the same of a state's parts
abbrev pub IsReturning : After → ℕ → Frame → Frame → Type 0
IsReturning s a f g = Returning s.places.place s.places.committed_to s.locks.frame a f g

-- all its pages are back
pub record Returned (place : ℕ → ℕ → Place) (to : Frame → Option Frame) (lock : Frame → Option ℕ) (a : ℕ)
    (g : Frame) : Type 0 where
  pub dest : lock g ≡ Some a
  pub lands : (q u : ℕ) → moving_frame (place q u) ≡ Some g → ⊥
  pub stood_by : (q u : ℕ) → stood to (place q u) ≡ Some g → names_directly (place q u) ≡ Some g

-- the same of a state's parts
abbrev pub IsReturned : After → ℕ → Frame → Type 0
IsReturned s a g = Returned s.places.place s.places.committed_to s.locks.frame a g
