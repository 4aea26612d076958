use Rattle.std.proofs.Common.{◌≡◌, ◌-◌, length, drop}
use Rattle.hm_history.specs.Memory.Places.{lowest}
use Rattle.hm_flaw_states.specs.Placed.{pages_in, some_page}
use Rattle.hm_flaw_states.proofs.placed.lowest_of.Given as goal

abbrev pub invariant-loop-done : goal.invariant-loop-done
invariant-loop-done g l =
    some_page l.best ≡ lowest (g.T.Asks.test l.asks) (pages_in (drop (length l.pages - l.done) l.pages))
