use Rattle.std.proofs.Common.{◌≡◌}
use Rattle.hm_history.specs.Memory.Words.{bytes_from}
use Rattle.hm_flaws.specs.Flawed.{shown_bytes}
use Rattle.hm_flaw_states.specs.Owns.{driver_in}
use Rattle.hm_flaw_states.proofs.found.Found.shown_from.Given as goal

abbrev pub invariant-loop-number : goal.invariant-loop-number
invariant-loop-number g l = l.all.items ≡ bytes_from (shown_bytes (g.W.Reads.state l.self.world.now).after.places (driver_in l.self.own.now).contents l.proc) l.addr l.number
