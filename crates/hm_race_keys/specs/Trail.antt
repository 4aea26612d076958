-- Parts of a state after an entry, each by itself: the other parts do not count for it.
use Rattle.std.specs.Prelude.{ℕ, Bool, Option, Some, None, List, [], slice_index_or}
use Rattle.hm_base.specs.PlaceWords.{with_frame}
use Rattle.hm_base.specs.declared.Frame.{Frame}
use Rattle.hm_base.specs.declared.Place.{Place}
use Rattle.hm_history.specs.Memory.Places.{TableEntry, places_start, places_next}
use Rattle.hm_history.specs.Memory.Plain.{MirrorState, plain_start, plain_next}
use Rattle.hm_history.specs.Memory.Locks.{locks_start, frame_placed, with_lock}
use Rattle.hm_history.specs.declared.Kind.{Kind}
use Rattle.hm_race_laws.specs.Positions.{forget_kind}

-- the places after an entry, for which the other parts do not count
abbrev pub place_next : (ℕ → ℕ → Place) → Kind → ℕ → ℕ → Place
place_next f k = (places_next (record places_start { place = f }) k).place

-- the held frames after an entry, for which the other parts do not count
abbrev pub held_next : (Frame → Bool) → Kind → Frame → Bool
held_next f k = (places_next (record places_start { held = f }) k).held

-- the withdrawn devices after an entry
abbrev pub withdrawn_next : (ℕ → Bool) → Kind → ℕ → Bool
withdrawn_next f k = (places_next (record places_start { withdrawn = f }) k).withdrawn

-- the removed devices after an entry
abbrev pub removed_next : (ℕ → Bool) → Kind → ℕ → Bool
removed_next f k = (places_next (record places_start { removed = f }) k).removed

-- the tables after an entry, without positions
abbrev pub table_next : (ℕ → ℕ → Option TableEntry) → Kind → ℕ → ℕ → Option TableEntry
table_next f k = (places_next (record places_start { table = f }) (forget_kind k)).table

-- who has frames locked after an entry, by the place that it is about and the frame that it leaves without a name
abbrev pub lockers_next : (Frame → Option ℕ) → ℕ → Kind → Place → Option Frame → Frame → Option ℕ
lockers_next f a (Kind.Take g) old left = with_frame f g (Some a)
lockers_next f a (Kind.Done g) old left = with_frame f g None
lockers_next f a (Kind.Drop g) old left = with_frame f g None
lockers_next f a (Kind.Place p v x) old left =
    with_lock (frame_placed (record locks_start { frame = f }) old a x) left (Some a)
lockers_next f a _ old left = f

-- the answers of each actor
abbrev pub answers_in : List (List Kind) → ℕ → List Kind
answers_in xs a = slice_index_or xs a []

-- the mirrors after an entry
abbrev pub mirrors_next : (ℕ → Option MirrorState) → Kind → ℕ → Option MirrorState
mirrors_next f k = (plain_next (record plain_start { mirrors = f }) k).mirrors

-- the place of the page that an entry is about
abbrev pub entry_old : (ℕ → ℕ → Place) → Kind → Place
entry_old f (Kind.Place p v x) = f p v
entry_old f _ = Place.Empty
