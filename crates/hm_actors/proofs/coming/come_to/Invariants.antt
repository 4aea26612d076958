use Rattle.std.proofs.Common.{◌≡◌, drop}
use Rattle.hm_history.specs.Kernel.Going.{steps_from}
use Rattle.hm_actors.specs.Coming.{come_by}
use Rattle.hm_actors.proofs.coming.come_to.Given as goal

abbrev pub invariant-loop-at : goal.invariant-loop-at
invariant-loop-at g l =
    come_by (g.C.Concerns.concerns l.concerns) l.records.items (steps_from l.fn.step) l.next
    ≡ come_by (g.C.Concerns.concerns l.concerns) l.records.items (drop l.at-index l.at-items) l.from
