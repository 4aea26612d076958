-- What the items of places stand for.
use Rattle.std.specs.Prelude.{◌≡◌, ℕ, ◌^◌, Bool, true, ◌&&◌, not, nat_lt, if◌then◌else◌, Option, Some, None, List, []}
use Rattle.std.specs.Prelude.{◌∷◌, unwrap_or}
use Rattle.hm_base.specs.PlaceWords.{is_empty_place}
use Rattle.hm_base.specs.declared.Place.{Place}
use Rattle.entry_words.specs.Word.{word_of}
use Rattle.hm_history.specs.Memory.Places.{Places, places_start}
use Rattle.hm_race_keys.specs.Sparse.{found, mixed}
use Rattle.hm_race_keys.specs.declared.sparse.Item.{Item}

-- the place of a page, by the items
abbrev pub places_in : List (Item Place) → ℕ → ℕ → Place
places_in xs p v = unwrap_or (found xs p v) Place.Empty

-- the pages that have a place, in the order of the items
abbrev pub listed : List (Item Place) → List (ℕ × ℕ)
listed [] = []
listed (x ∷ xs) = (x.row, x.number) ∷ listed xs

-- the places by the items, and those that are listed; the other parts are as at the start
abbrev pub places_of : List (Item Place) → Places
places_of xs = record places_start { place = places_in xs; placed = listed xs }

-- nothing, or a place that is not Empty, of a page and a process in range
abbrev pub may_keep : ℕ → ℕ → Option Place → Bool
may_keep p v None = true
may_keep p v (Some x) = nat_lt p 32 && (nat_lt v (2 ^ 36) && not (is_empty_place x))

-- each place that is kept may be
abbrev pub IsPlaced : List (Item Place) → Type 0
IsPlaced xs = (p v : ℕ) → may_keep p v (found xs p v) ≡ true

-- a sum with a place mixed in
abbrev pub mixed_place : Place → ℕ → ℕ
mixed_place x sum = mixed sum (word_of x)

-- the page of the first item that passes
abbrev pub first_item : (Item Place → Bool) → List (Item Place) → Option (ℕ × ℕ)
first_item test [] = None
first_item test (x ∷ xs) = if test x then Some (x.row, x.number) else first_item test xs
