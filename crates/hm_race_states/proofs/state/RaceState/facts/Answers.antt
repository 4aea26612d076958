use Rattle.std.proofs.Common.{subst}
use Rattle.hm_race_keys.proofs.Listing.{has_each, each_once}
use Rattle.hm_race_laws.specs.Forms.{ListsPlaces}
use Rattle.hm_race_keys.specs.PagePlaces.{places_in, listed}
use Rattle.hm_race_states.proofs.state.RaceState.facts.Goals as goal

pub returns : goal.returns
returns c = subst (λ xs. ListsPlaces (places_in xs) (listed xs)) c.deref.ensures (record {
  each = has_each c.deref.result.now;
  once = each_once 0 0 c.deref.result.now c.facts.ensures.rising;
})
