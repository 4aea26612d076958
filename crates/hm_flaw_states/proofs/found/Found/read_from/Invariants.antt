use Rattle.std.proofs.Common.{◌≡◌}
use Rattle.hm_flaws.specs.Flawed.{device_bytes}
use Rattle.hm_flaw_states.specs.Owns.{driver_in}
use Rattle.hm_flaw_states.proofs.found.Found.read_from.Given as goal

abbrev pub invariant-loop-number : goal.invariant-loop-number
invariant-loop-number g l = l.all.items ≡ device_bytes (driver_in l.self.own.now) l.mirror l.addr l.number
