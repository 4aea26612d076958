use Rattle.std.proofs.Common.{◌≡◌, drop}
use Rattle.hm_race_keys.specs.PagePlaces.{places_in}
use Rattle.hm_flaw_states.specs.Buckets.{mixed_places}
use Rattle.hm_flaw_states.specs.Placed.{pages_in}
use Rattle.hm_flaw_states.proofs.buckets.mixed_places.Given as goal

abbrev pub invariant-loop-one : goal.invariant-loop-one
invariant-loop-one l =
    mixed_places l.total (places_in l.places) (pages_in (drop l.one-index l.pages))
    ≡ mixed_places l.sum (places_in l.places) (pages_in l.pages)
