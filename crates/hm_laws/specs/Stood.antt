-- Words on what places stand for, and on who names a frame.
use Rattle.std.specs.Prelude.{◌≡◌, ℕ, Bool, true, false, Option, Some, None, unwrap_or, is_some}
use Rattle.hm_base.specs.declared.Frame.{Frame}
use Rattle.hm_base.specs.declared.Place.{Place}
use Rattle.hm_base.specs.declared.Place.TheVariants.{Empty, Zero, Sys, Own, Moving, Exclusive}
use Rattle.hm_history.specs.Memory.Words.{sys_frame, dev_frame, names}
use Rattle.hm_history.specs.declared.TableRight.{TableRight}
use Rattle.hm_history.specs.declared.TableRight.TheVariants.{Read, Write, Sole}
use Rattle.hm_history.specs.declared.locks.MapLock.{MapLock}

-- the lock of a process, as an actor has it
abbrev pub lock_on : ℕ → Bool → Option MapLock
lock_on p w = Some (record { proc = p; writes = w })

-- the frame that a place stands for; `to` tells where a frame was committed to
abbrev pub stood : (Frame → Option Frame) → Place → Option Frame
stood to Empty = None
stood to Zero = None
stood to (Sys n w) = Some (sys_frame n)
stood to (Own d n w) = Some (dev_frame d n)
stood to (Moving f w) = Some (unwrap_or (to f) f)
stood to (Exclusive n a) = Some (sys_frame n)

-- the page is under way: its place is a migration entry
abbrev pub is_moving : Place → Bool
is_moving (Moving f w) = true
is_moving x = false

-- the place names a system frame directly
abbrev pub is_system : Place → Bool
is_system (Sys n w) = true
is_system x = false

-- some place names the frame
abbrev pub IsNamed : (ℕ → ℕ → Place) → Frame → Type 0
IsNamed place f = (q : ℕ) × (u : ℕ) × (names (place q u) ≡ Some f)

-- no place names the frame
abbrev pub Unnamed : (ℕ → ℕ → Place) → Frame → Type 0
Unnamed place f = (q u : ℕ) → names (place q u) ≡ Some f → ⊥

-- no place stands for the frame
abbrev pub Unstood : (ℕ → ℕ → Place) → (Frame → Option Frame) → Frame → Type 0
Unstood place to f = (q u : ℕ) → stood to (place q u) ≡ Some f → ⊥

-- a table entry for this frame, which may write, fits the place; of a Moving place only after its commit
abbrev pub Fits : (Frame → Option Frame) → Option Frame → Bool → Place → Type 0
Fits to t w Empty = ⊥
Fits to t w Zero = (t ≡ None) × (w ≡ false)
Fits to t w (Sys n z) = (t ≡ Some (sys_frame n)) × (w ≡ true → z ≡ true)
Fits to t w (Own d n z) = (t ≡ Some (dev_frame d n)) × (w ≡ true → z ≡ true)
Fits to t w (Moving f z) = (to f ≡ t) × (is_some t ≡ true) × (w ≡ true → z ≡ true)
Fits to t w (Exclusive n a) = ⊥

-- a table entry that is one actor's alone fits a place that is exclusive, with the same frame
abbrev pub FitsSole : Option Frame → Place → Type 0
FitsSole t (Exclusive n a) = t ≡ Some (sys_frame n)
FitsSole t x = ⊥

-- a mirror's table entry with this right names what the place stands for
abbrev pub Matches : (Frame → Option Frame) → Option Frame → TableRight → Place → Type 0
Matches to t Read x = Fits to t false x
Matches to t Write x = Fits to t true x
Matches to t Sole x = FitsSole t x
