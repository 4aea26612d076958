-- What holds of the numbers in an entry and in the areas.
use Rattle.std.specs.Prelude.{◌≡◌, ℕ, ◌^◌, ◌<◌, Bool, true, nat_le, List, [], length, slice_index_or}
use Rattle.std.specs.List.{list_all}
use Rattle.hm_base.specs.Pages.{IsSpan}
use Rattle.hm_base.specs.Areas.{last_of}
use Rattle.hm_base.specs.declared.area.Area.{Area}
use Rattle.hm_history.specs.declared.Kind.{Kind}
use Rattle.hm_spaces.specs.Spaces.{SpacesValue}

-- no area has a page from 2^36 on
abbrev pub end_below : List Area → Bool
end_below as_ = list_all (λ a. nat_le (last_of a.span) (2 ^ 36)) as_

-- there are 32 processes, and no area goes beyond the last page
pub record IsSized (x : SpacesValue) : Type 0 where
  pub there : length x.there ≡ 32
  pub named : length x.named ≡ 32
  pub areas : length x.areas ≡ 32
  pub below : (p : ℕ) → end_below (slice_index_or x.areas p []) ≡ true

-- the processes of an entry that changes them, and the span that it maps
abbrev pub InRange : Kind → Type 0
InRange (Kind.Mapped p r w) = (p < 32) × IsSpan r
InRange (Kind.Unmapped p r) = p < 32
InRange (Kind.Protected p r w) = (p < 32) × IsSpan r
InRange (Kind.Forked p child) = (p < 32) × (child < 32)
InRange (Kind.Exited p) = p < 32
InRange (Kind.Named p child) = child < 32
InRange k = Unit {0}
