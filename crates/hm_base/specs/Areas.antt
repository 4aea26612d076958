-- The areas of a process: disjoint spans with a right each, in rising order (mm/mmap.c, for private anonymous memory).
use Rattle.std.specs.Prelude.{ℕ, ◌+◌, ◌-◌, min, max, Bool, nat_lt, ◌==◌, if◌then◌else◌, Option, List, [], ◌∷◌, ◌++◌}
use Rattle.std.specs.Prelude.{flat_map, sum_by, find, option_map}
use Rattle.std.specs.List.{list_any}
use Rattle.hm_base.specs.Pages.{Pages, covers, overlap}
use Rattle.hm_base.specs.declared.ops.Rights.{Rights}
use Rattle.hm_base.specs.declared.area.Area.{Area}

-- the page after the span's last
abbrev pub last_of : Pages → ℕ
last_of s = s.first + s.count

-- an area from a page up to another, if that is not empty
abbrev pub part : ℕ → ℕ → Rights → List Area
part from upto r =
    if nat_lt from upto then record { span = record { first = from; count = upto - from }; rights = r } ∷ [] else []

-- the part of an area before a span
abbrev pub before : Pages → Area → List Area
before r a = part a.span.first (min (last_of a.span) r.first) a.rights

-- the part of it inside the span, with this right
abbrev pub inside : Pages → Rights → Area → List Area
inside r w a = part (max a.span.first r.first) (min (last_of a.span) (last_of r)) w

-- the part of it after the span
abbrev pub behind : Pages → Area → List Area
behind r a = part (max a.span.first (last_of r)) (last_of a.span) a.rights

-- the areas without the pages of the span
abbrev pub without : Pages → List Area → List Area
without r as_ = flat_map (λ a. before r a ++ behind r a) as_

-- the areas with this right on the pages of the span that have one
abbrev pub with_rights : Pages → Rights → List Area → List Area
with_rights r w as_ = flat_map (λ a. before r a ++ (inside r w a ++ behind r a)) as_

-- the new area in its place, by first page
abbrev pub with_area : Area → List Area → List Area
with_area n [] = n ∷ []
with_area n (a ∷ as_) = if nat_lt n.span.first a.span.first then n ∷ (a ∷ as_) else (a ∷ with_area n as_)

-- some page of the span has an area
abbrev pub meets : Pages → List Area → Bool
meets r as_ = list_any (λ a. overlap a.span r) as_

-- each page of the span has an area
abbrev pub all_mapped : Pages → List Area → Bool
all_mapped r as_ = sum_by (λ a. min (last_of a.span) (last_of r) - max a.span.first r.first) as_ == r.count

-- the right of a page, if it has an area
abbrev pub rights_at : List Area → ℕ → Option Rights
rights_at as_ v = option_map (λ a. a.rights) (find (λ a. covers a.span v) as_)
