-- What is asked of the places of the pages that were placed.
use Rattle.std.specs.Prelude.{Bool, List}
use Rattle.hm_base.specs.PlaceWords.{is_frame, names, names_directly, moving_frame}
use Rattle.hm_base.specs.declared.Frame.{Frame}
use Rattle.hm_base.specs.declared.Place.{Place}
use Rattle.hm_history.specs.Memory.Places.{Places, places_start}
use Rattle.hm_race_keys.specs.PagePlaces.{places_in}
use Rattle.hm_race_keys.specs.declared.sparse.Item.{Item}
use Rattle.hm_flaw_states.specs.Placed.{pages_in}
use Rattle.hm_flaw_states.specs.declared.placed.PlacedPage.{PlacedPage}
use Rattle.hm_flaw_states.specs.declared.placing.Naming.{Naming}
use Rattle.hm_flaw_states.specs.declared.placing.Naming.TheVariants.{Directly, Moving, Either}

-- the place names the frame in a way
abbrev pub names_so : Naming → Place → Frame → Bool
names_so Directly x f = is_frame (names_directly x) f
names_so Moving x f = is_frame (moving_frame x) f
names_so Either x f = is_frame (names x) f

-- the places by the items, and the pages that were placed; the other parts are as at the start
abbrev pub placed_by : List (Item Place) → List PlacedPage → Places
placed_by xs ys = record places_start { place = places_in xs; placed = pages_in ys }
