-- The uses of a frame in rising order, and the room for more.
use Rattle.std.specs.Prelude.{ℕ, ◌+◌, ◌-◌, Bool, true, not, ◌==◌, ◌&&◌, ◌||◌, nat_lt, Option, List, [], ◌∷◌, map, find}
use Rattle.std.specs.Prelude.{option_map, slice_index_or, if◌then◌else◌}
use Rattle.std.specs.List.{filter, list_any}
use Rattle.rev_maps.specs.declared.uses.Use.{Use}

-- the uses of a frame, and how many more there is room for
pub record Uses : Type 0 where
  pub list : List Use
  pub room : ℕ

-- a frame that no page names
abbrev pub unused : Uses
unused = record { list = []; room = 0 }

-- the uses of a frame by its number
abbrev pub uses_of : List Uses → ℕ → Uses
uses_of frames n = slice_index_or frames n unused

-- by process, and then by page
abbrev pub precedes : Use → Use → Bool
precedes a b = nat_lt a.proc b.proc || ((a.proc == b.proc) && nat_lt a.page b.page)

-- the use is by that page of the process
abbrev pub is_by : ℕ → ℕ → Use → Bool
is_by proc page u = (u.proc == proc) && (u.page == page)

-- the page of the process names the frame
abbrev pub has_use : ℕ → ℕ → List Use → Bool
has_use proc page us = list_any (is_by proc page) us

-- each use of the list comes after this one
abbrev pub all_after : Use → List Use → Bool
all_after u [] = true
all_after u (w ∷ ws) = precedes u w && all_after u ws

-- the uses rise by process and page, so that no page is there twice
abbrev pub is_rising : List Use → Bool
is_rising [] = true
is_rising (u ∷ us) = all_after u us && is_rising us

-- the use in its place
abbrev pub with_use : Use → List Use → List Use
with_use n [] = n ∷ []
with_use n (u ∷ us) = if precedes n u then n ∷ (u ∷ us) else (u ∷ with_use n us)

-- the uses without the one of that page
abbrev pub without_use : ℕ → ℕ → List Use → List Use
without_use proc page us = filter (λ u. not (is_by proc page u)) us

-- the use of that page of the process is a migration entry now
abbrev pub marked : ℕ → ℕ → Use → Use
marked proc page u = if is_by proc page u then record u { moving = true } else u

-- the use of that page is by a migration entry now
abbrev pub with_moving : ℕ → ℕ → List Use → List Use
with_moving proc page us = map (marked proc page) us

-- the frame has one use more, in the room that there was
abbrev pub added : Use → Uses → Uses
added n f = record { list = with_use n f.list; room = f.room - 1 }

-- the frame has no use by that page any more, and its room is free
abbrev pub removed : ℕ → ℕ → Uses → Uses
removed proc page f = record { list = without_use proc page f.list; room = f.room + 1 }

-- the process and page of the first use that passes a test
abbrev pub first_use : (Use → Bool) → List Use → Option (ℕ × ℕ)
first_use test us = option_map (λ u. (u.proc, u.page)) (find test us)
