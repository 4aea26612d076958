use Rattle.hm_view.proofs.Going.{SoFar}
use Rattle.hm_view.proofs.rows.add_rows.Given as goal

abbrev pub invariant-loop-at : goal.invariant-loop-at
invariant-loop-at l = SoFar l.fn.world.script l.entries l.from l.at l.fn.text l.text l.world
