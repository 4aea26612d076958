-- What the tables show of the places of a history.
use Rattle.std.specs.Prelude.{◌≡◌, ℕ, Bool, true, false, not, ◌&&◌, List, [], ◌∷◌}
use Rattle.std.specs.List.{list_any}
use Rattle.hm_base.specs.Program.{Program}
use Rattle.hm_base.specs.declared.PoolId.{PoolId}
use Rattle.hm_base.specs.declared.Place.{Place}
use Rattle.hm_history.specs.Memory.Words.{is_empty_place}
use Rattle.hm_history.specs.Memory.Places.{is_page, pool_size}
use Rattle.hm_tables.specs.Values.{Tables, size_in, place_of}
use Rattle.hm_tables.specs.Sound.{IsTables}

-- each page once
abbrev pub is_once : List (ℕ × ℕ) → Bool
is_once [] = true
is_once (x ∷ xs) = not (list_any (is_page x.0 x.1) xs) && is_once xs

-- the tables are those of these places: each page has its place there, and each that is not empty is listed once
pub record TablesShown (c : Program) (place : ℕ → ℕ → Place) (placed : List (ℕ × ℕ)) (x : Tables) : Type 0 where
  pub tables : IsTables x
  pub sizes : (pool : PoolId) → size_in x.pools pool ≡ pool_size c pool
  pub places : (p v : ℕ) → place_of x p v ≡ place p v
  pub listed : (p v : ℕ) → is_empty_place (place p v) ≡ false → list_any (is_page p v) placed ≡ true
  pub once : is_once placed ≡ true
