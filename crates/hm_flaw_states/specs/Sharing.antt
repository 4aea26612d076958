-- How many pages have to do with a frame.
use Rattle.std.specs.Prelude.{Bool, true, false, ◌&&◌}
use Rattle.hm_base.specs.PlaceWords.{writable}
use Rattle.hm_base.specs.declared.Frame.{Frame}
use Rattle.hm_base.specs.declared.Place.{Place}
use Rattle.hm_history.specs.Memory.Places.{Places}
use Rattle.hm_folds.specs.Standing.{is_backed, is_moving_of}
use Rattle.hm_flaw_states.specs.declared.judging.sharing.Sharing.{Sharing}
use Rattle.hm_flaw_states.specs.declared.judging.sharing.Sharing.TheVariants.{Standing, Moving}

-- a page with this place has so to do with the frame
abbrev pub has_to_do : Sharing → Places → Frame → Place → Bool
has_to_do Standing s f x = is_backed s f x
has_to_do Moving s f x = is_moving_of f x

-- it is counted: it has to do with the frame, and is writable if that is asked
abbrev pub is_counted : Sharing → Bool → Places → Frame → Place → Bool
is_counted sharing false s f x = has_to_do sharing s f x
is_counted sharing true s f x = has_to_do sharing s f x && writable x
