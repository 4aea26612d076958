use Rattle.std.proofs.Common.{refl}
use Rattle.hm_steps.proofs.phases.due_phase.Goals as goal

pub returns-in-Armed : goal.returns-in-Armed
returns-in-Armed g c = rw (c.armed_turn.ensures, c.in-Armed.is) refl
