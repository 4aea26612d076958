-- Areas in order.
use Rattle.std.specs.Prelude.{◌≡◌, ℕ, ◌≤◌, ◌^◌, Bool, true, ◌&&◌, nat_le, nat_lt, List, [], ◌∷◌, length}
use Rattle.hm_base.specs.Areas.{last_of}
use Rattle.hm_base.specs.declared.area.Area.{Area}

-- spans of one page or more, in rising order from a page on, none of which meets another
abbrev pub rising : ℕ → List Area → Bool
rising from [] = true
rising from (a ∷ as_) =
    nat_le from a.span.first
    && (nat_lt 0 a.span.count && (nat_le (last_of a.span) (2 ^ 36) && rising (last_of a.span) as_))

-- the areas of each process lie apart and in order, at most 64, so that a search by halves finds one
pub record OrderRules (areas : ℕ → List Area) : Type 0 where
  pub few : (p : ℕ) → length (areas p) ≤ 64
  pub in_order : (p : ℕ) → rising 0 (areas p) ≡ true
