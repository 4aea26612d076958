use Rattle.std.proofs.Common.{ℕ, map, ap, sym, ◌∙◌}
use Rattle.std.specs.Rc.{rc_value}
use Rattle.hm_flaw_states.specs.Buckets.{mixed_top}
use Rattle.hm_race_states.specs.States.{goings_in}
use Rattle.hm_flaw_states.proofs.Mixing.{tops_more, no_tops}
use Rattle.hm_flaw_states.proofs.buckets.mixed_tasks.Goals as goal

pub loop-actor-init : goal.loop-actor-init
loop-actor-init c = no_tops _ _

pub loop-actor-preserved : goal.loop-actor-preserved
loop-actor-preserved c =
    c.mixed_at-total.ensures ∙ (ap (λ (t : ℕ). mixed_top t (goings_in (map rc_value c.args.tasks.now) c.loop-actor.actor)) c.loop-actor.invariant ∙ sym (tops_more c.args.sum c.loop-actor.actor (goings_in (map rc_value c.args.tasks.now))))
