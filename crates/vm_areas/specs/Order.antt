-- What holds of the areas of a process: each has a page, they rise and are disjoint, and there are at most 64.
use Rattle.std.specs.Prelude.{ℕ, suc, ◌≤◌, nat_le, if◌then◌else◌, List, [], ◌∷◌, length}
use Rattle.hm_base.specs.Areas.{last_of}
use Rattle.hm_base.specs.declared.area.Area.{Area}

-- they rise, and none begins below this page
abbrev pub IsRising : ℕ → List Area → Type 0
IsRising low [] = Unit {0}
IsRising low (a ∷ as_) = (low ≤ a.span.first) × (1 ≤ a.span.count) × IsRising (last_of a.span) as_

-- the areas of a process as they are kept, so that a search by halves finds one
pub record IsAreas (as_ : List Area) : Type 0 where
  pub few : length as_ ≤ 64
  pub rising : IsRising 0 as_

-- the areas, with the room of their list
pub record HaveRoom (as_ : List Area) (room : ℕ) : Type 0 where
  pub areas : IsAreas as_
  pub fit : 64 ≤ room

-- how many areas at the front end at or below a page
abbrev pub place_of : ℕ → List Area → ℕ
place_of v [] = 0
place_of v (a ∷ as_) = if nat_le (last_of a.span) v then suc (place_of v as_) else 0
