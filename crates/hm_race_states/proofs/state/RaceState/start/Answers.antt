use Rattle.std.proofs.Common.{◌∙◌, ap}
use Rattle.hm_race_laws.specs.Blur.{unlisted}
use Rattle.hm_race_states.specs.States.{state_in}
use Rattle.hm_race_states.specs.declared.state.RaceState.{RaceState}
use Rattle.hm_race_states.proofs.Nexts.{starts_on}
use Rattle.hm_race_states.proofs.state.RaceState.start.Goals as goal

pub returns : goal.returns
returns c =
    ap (λ (x : RaceState). unlisted (state_in x)) c.joined.ensures
    ∙ starts_on c.args.script.now c.in_ok-processes.processes c.in_ok-places.places c.in_ok-actors.actors
    c.in_ok-processes.ensures c.in_ok-places.ensures c.in_ok-actors.ensures
