-- What questions ask of each place.
use Rattle.std.specs.Prelude.{ℕ, Bool, ◌&&◌, not, if◌then◌else◌}
use Rattle.hm_base.specs.PlaceWords.{is_frame, names, names_directly, moving_frame, writable, is_empty_place}
use Rattle.hm_base.specs.declared.Frame.{Frame}
use Rattle.hm_base.specs.declared.Place.{Place}
use Rattle.hm_race_keys.specs.Sparse.{stands_at}
use Rattle.hm_race_keys.specs.declared.sparse.Item.{Item}
use Rattle.hm_race_keys.specs.declared.questions.Naming.{Naming}
use Rattle.hm_race_keys.specs.declared.questions.Naming.TheVariants.{Directly, Moving, Either}

-- the place names the frame in a way
abbrev pub names_so : Naming → Place → Frame → Bool
names_so Directly x f = is_frame (names_directly x) f
names_so Moving x f = is_frame (moving_frame x) f
names_so Either x f = is_frame (names x) f

-- the place is writable, or merely not Empty
abbrev pub is_wanted : Bool → Place → Bool
is_wanted writes x = if writes then writable x else not (is_empty_place x)

-- an item of another page whose place names the frame
abbrev pub named_beside : ℕ → ℕ → Frame → Item Place → Bool
named_beside p v f x = not (stands_at p v x) && is_frame (names x.value) f
