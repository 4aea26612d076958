-- Which entry stands for each address, where a few addresses tell from where on another one does.
use Rattle.std.specs.Prelude.{◌≡◌, ℕ, zero, suc, ◌+◌, ◌≤◌, ◌<◌, ◌&&◌, nat_le, nat_lt, if◌then◌else◌, Option, Some, None}
use Rattle.std.specs.Prelude.{unwrap_or, List, [], ◌∷◌}
use Rattle.std.specs.Ordering.{nat_cmp}
use Rattle.std.specs.BTreeMap as tree
use Rattle.hm_why.specs.declared.changes.Changes.{Changes}

-- what the last change at or before an address says, where f has the changes
abbrev pub last_change : (ℕ → Option (Option ℕ)) → ℕ → Option ℕ
last_change f zero = unwrap_or (f zero) None
last_change f (suc b) = unwrap_or (f (suc b)) (last_change f b)

-- the change at an address, if there is one
abbrev pub change_at : Changes → ℕ → Option (Option ℕ)
change_at t b = tree.get nat_cmp t.points b

-- the entry that stands for an address
abbrev pub entry_for : Changes → ℕ → Option ℕ
entry_for t b = last_change (change_at t) b

-- the addresses from one up to another have this entry, and the others what they had
abbrev pub IsSet : Changes → Changes → ℕ → ℕ → ℕ → Type 0
IsSet before after from to at =
    (b : ℕ) → entry_for after b ≡ (if nat_le from b && nat_lt b to then Some at else entry_for before b)

-- the last change at or before an address: none is between, and without one there is none
abbrev pub IsLast : Changes → ℕ → Option (ℕ × Option ℕ) → Type 0
IsLast t b None = (k : ℕ) → k ≤ b → change_at t k ≡ None
IsLast t b (Some x) =
    (x.0 ≤ b) × (change_at t x.0 ≡ Some x.1) × ((k : ℕ) → x.0 < k → k ≤ b → change_at t k ≡ None)

-- the first change from an address on, if there is one
abbrev pub IsFirst : Changes → ℕ → Option (ℕ × Option ℕ) → Type 0
IsFirst t from None = (k : ℕ) → from ≤ k → change_at t k ≡ None
IsFirst t from (Some x) =
    (from ≤ x.0) × (change_at t x.0 ≡ Some x.1) × ((k : ℕ) → from ≤ k → k < x.0 → change_at t k ≡ None)

-- no change is left from one address up to another, and the others are as they were
pub record IsCleared (before after : Changes) (from to : ℕ) : Type 0 where
  pub none : (k : ℕ) → from ≤ k → k < to → change_at after k ≡ None
  pub low : (k : ℕ) → k < from → change_at after k ≡ change_at before k
  pub high : (k : ℕ) → to ≤ k → change_at after k ≡ change_at before k

-- the changes from an address on and before an end, in their order
abbrev pub IsAhead : (ℕ → Option (Option ℕ)) → List (ℕ × Option ℕ) → ℕ → ℕ → Type 0
IsAhead f [] from end = (k : ℕ) → from ≤ k → k < end → f k ≡ None
IsAhead f (e ∷ es) from end =
    (from ≤ e.0) × (e.0 < end) × (f e.0 ≡ Some e.1) × ((k : ℕ) → from ≤ k → k < e.0 → f k ≡ None)
    × IsAhead f es (e.0 + 1) end

-- one that was taken and those left; none, if none was left to take
abbrev pub pending : Option (ℕ × Option ℕ) → List (ℕ × Option ℕ) → List (ℕ × Option ℕ)
pending None es = []
pending (Some e) es = e ∷ es
