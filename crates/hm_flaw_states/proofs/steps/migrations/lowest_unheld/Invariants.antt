use Rattle.std.proofs.Common.{◌≡◌, ◌-◌}
use Rattle.std.specs.Prelude.{not}
use Rattle.hm_base.specs.declared.PoolId.{PoolId}
use Rattle.hm_history.specs.Memory.Words.{least}
use Rattle.hm_history.specs.Memory.Places.{frame_of}
use Rattle.hm_flaw_states.proofs.steps.migrations.lowest_unheld.Given as goal

abbrev pub invariant-loop-number : goal.invariant-loop-number
invariant-loop-number g l =
    least (λ n. not ((g.W.Reads.state l.found).after.places.held (frame_of (PoolId.Device l.dev) n))) 0 (l.size - 0)
    ≡ least (λ n. not ((g.W.Reads.state l.found).after.places.held (frame_of (PoolId.Device l.dev) n))) l.number (l.size - l.number)
