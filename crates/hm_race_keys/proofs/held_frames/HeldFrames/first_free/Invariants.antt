use Rattle.std.proofs.Common.{◌≡◌, ◌-◌}
use Rattle.std.specs.Prelude.{not}
use Rattle.hm_history.specs.Memory.Words.{least}
use Rattle.hm_history.specs.Memory.Places.{frame_of}
use Rattle.hm_race_keys.specs.FrameTables.{held_in}
use Rattle.hm_race_keys.proofs.held_frames.HeldFrames.first_free.Given as goal

abbrev pub invariant-loop-number : goal.invariant-loop-number
invariant-loop-number l =
    least (λ n. not (held_in l.self (frame_of l.pool n))) 0 (l.size - 0)
    ≡ least (λ n. not (held_in l.self (frame_of l.pool n))) l.number (l.size - l.number)
