use Rattle.hm_projection.proofs.Going.{SoFar}
use Rattle.hm_projection.proofs.entries.add_entries.Given as goal

abbrev pub invariant-loop-at : goal.invariant-loop-at
invariant-loop-at l = SoFar l.fn.world.script l.entries l.at l.fn.events.items l.events.items l.world l.driver
