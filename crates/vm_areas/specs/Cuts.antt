-- An area cut at the ends of a span: its parts outside stay, and its part inside gets a right, or goes.
use Rattle.std.specs.Prelude.{ℕ, ◌-◌, min, max, Option, Some, None, List, [], ◌++◌, flat_map}
use Rattle.hm_base.specs.Pages.{Pages}
use Rattle.hm_base.specs.Areas.{last_of, part, before, behind}
use Rattle.hm_base.specs.declared.area.Area.{Area}
use Rattle.hm_base.specs.declared.ops.Rights.{Rights}

-- the part inside the span: it goes, or gets the right
abbrev pub part_with : ℕ → ℕ → Option Rights → List Area
part_with from upto None = []
part_with from upto (Some w) = part from upto w

-- what an area becomes: the part before the span, the one inside it, and the one after it
abbrev pub parts : Pages → Option Rights → Area → List Area
parts r w a = before r a ++ (part_with (max a.span.first r.first) (min (last_of a.span) (last_of r)) w ++ behind r a)

-- what the areas become, each cut by itself
abbrev pub cut : Pages → Option Rights → List Area → List Area
cut r w as_ = flat_map (parts r w) as_

-- how many pages an area shares with the span
abbrev pub shared : Pages → Area → ℕ
shared r a = min (last_of a.span) (last_of r) - max a.span.first r.first
