-- Phases without positions and absolute sequences.
use Rattle.std.specs.Prelude.{ℕ, ◌==◌, if◌then◌else◌, Option, Some, None}
use Rattle.hm_history.specs.declared.phases.Touch.{Touch}
use Rattle.hm_history.specs.declared.phases.Touch.TheVariants.{Cpu, Walk, Sole}
use Rattle.hm_history.specs.declared.phases.Phase.{Phase}

-- a noted sequence, if the interval's own is this, and small it is that
abbrev pub noted : ℕ → ℕ → ℕ → ℕ
noted own small q = if own == q then small else 5

-- a fault without the position and the absolute sequence of its look-up
abbrev pub blurred_touch : ℕ → ℕ → Touch → Touch
blurred_touch own small (Cpu k) = Cpu k
blurred_touch own small (Walk k at q) = Walk k 0 (noted own small q)
blurred_touch own small Sole = Sole

-- the same of a fault that may be none
abbrev pub blurred_option : ℕ → ℕ → Option Touch → Option Touch
blurred_option own small None = None
blurred_option own small (Some touch) = Some (blurred_touch own small touch)

-- a phase without the position and the absolute sequence of its look-up
abbrev pub blurred_phase : ℕ → ℕ → Phase → Phase
blurred_phase own small (Phase.Detaching q) = Phase.Detaching 0
blurred_phase own small (Phase.Begun k at q) = Phase.Begun k 0 (noted own small q)
blurred_phase own small (Phase.Decide touch) = Phase.Decide (blurred_touch own small touch)
blurred_phase own small (Phase.Noted k at q x) = Phase.Noted k 0 (noted own small q) x
blurred_phase own small (Phase.Taken touch g x) = Phase.Taken (blurred_touch own small touch) g x
blurred_phase own small (Phase.Armed touch g x) = Phase.Armed (blurred_touch own small touch) g x
blurred_phase own small (Phase.GiveUp touch) = Phase.GiveUp (blurred_option own small touch)
blurred_phase own small x = x
