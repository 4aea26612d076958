-- The holds of a race with which a search for the needed ones begins.
use Rattle.std.specs.Prelude.{ℕ, ◌-◌, ◌==◌, zero, suc, Bool, ◌&&◌, if◌then◌else◌, Option, Some, None}
use Rattle.std.specs.Prelude.{List, [], ◌∷◌, ◌++◌, length, fold, take}
use Rattle.std.specs.Prelude.{slice_get}
use Rattle.hm_history.specs.declared.Entry.{Entry}
use Rattle.hm_holds.specs.Holds.{count_next}
use Rattle.hm_holds.specs.Words.{same_word, word_of}
use Rattle.hm_holds.specs.declared.holds.Hold.{Hold}
use Rattle.hm_holds.specs.declared.holds.Nth.{Nth}
use Rattle.hm_held_search.specs.declared.events.Event.{Event}

-- what holds name of an entry
abbrev pub event_of : Entry → Event
event_of e = record { actor = e.actor; word = word_of e.kind }

-- the two have one actor and one word
abbrev pub same_event : Event → Event → Bool
same_event x y = (x.actor == y.actor) && same_word x.word y.word

-- how many of these are so
abbrev pub times : Event → List Event → ℕ
times x es = fold (λ n y. count_next (same_event x y) n) 0 es

-- the last of these that is so, by its word and how often it has come
abbrev pub nth_in : List Event → Event → Nth
nth_in es x = record { word = x.word; number = times x es }

-- the last of the actor, if one is
abbrev pub last_event : ℕ → List Event → Option Event
last_event a es = fold (λ o y. if y.actor == a then Some y else o) None es

-- the same by its word and number
abbrev pub nth_of : List Event → Option Event → Option Nth
nth_of es None = None
nth_of es (Some x) = Some (nth_in es x)

-- the actor waits, after its last entry among these, for the last of them, which is this one
abbrev pub waits_in : List Event → ℕ → Event → Hold
waits_in es a x = record { actor = a; after = nth_of es (last_event a es); other = x.actor; until = nth_in es x }

-- a hold of the actor, if it is another one that the last entry was of
abbrev pub wait_for : List Event → ℕ → Option Event → List Hold
wait_for es a None = []
wait_for es a (Some x) = if a == x.actor then [] else waits_in es a x ∷ []

-- the last of these
abbrev pub final : List Event → Option Event
final es = slice_get es (length es - 1)

-- a hold before the entry at a place, if the actor changes there
abbrev pub wait_at : List Event → Option Event → List Hold
wait_at before None = []
wait_at before (Some y) = wait_for before y.actor (final before)

-- the holds before each of the first entries
abbrev pub changes : List Event → ℕ → List Hold
changes es zero = []
changes es (suc n) = changes es n ++ wait_at (take n es) (slice_get es n)

-- the holds of the first actors at the end
abbrev pub endings : List Event → ℕ → List Hold
endings es zero = []
endings es (suc n) = endings es n ++ wait_for es n (final es)

-- a hold for each change of the actor, and one for each other actor at the end
abbrev pub first_of : List Event → ℕ → List Hold
first_of es actors = changes es (length es) ++ endings es actors
