use Rattle.std.proofs.Common.{◌≡◌, map}
use Rattle.std.specs.Rc.{rc_value}
use Rattle.hm_flaw_states.specs.Buckets.{mixed_tops}
use Rattle.hm_race_states.specs.States.{goings_in}
use Rattle.hm_flaw_states.proofs.buckets.mixed_tasks.Given as goal

abbrev pub invariant-loop-actor : goal.invariant-loop-actor
invariant-loop-actor l = l.total ≡ mixed_tops l.sum l.actor (goings_in (map rc_value l.tasks))
