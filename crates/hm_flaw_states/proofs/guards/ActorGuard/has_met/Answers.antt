use Rattle.hm_flaw_states.specs.Guards.{mirrors_in}
use Rattle.hm_flaw_states.proofs.guards.ActorGuard.has_met.Goals as goal

pub returns : goal.returns
unfolding mirrors_in
returns c = c.has_some.ensures
