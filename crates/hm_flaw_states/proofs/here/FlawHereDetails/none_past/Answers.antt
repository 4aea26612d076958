use Rattle.std.proofs.Common.{subst}
use Rattle.hm_race_keys.specs.PagePlaces.{IsPlaced}
use Rattle.hm_flaw_states.proofs.Past.{place_past}
use Rattle.hm_flaw_states.proofs.here.FlawHereDetails.none_past.Goals as goal

pub returns : goal.returns
returns c = place_past c.args.self.now.state.now.places.value (subst IsPlaced c.deref.ensures c.facts.ensures.placed)
