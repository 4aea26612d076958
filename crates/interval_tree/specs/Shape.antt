-- What contracts see of a balanced tree: its intervals in order, and its height.
use Rattle.std.specs.Prelude.{ℕ, ◌+◌, ◌≤◌, ◌≡◌, max, List, []}
use Rattle.interval_tree.specs.declared.node.Interval.{Interval}

-- the intervals of a tree, and its height
pub record Shape : Type 0 where
  pub items : List Interval
  pub height : ℕ

-- the empty tree
abbrev pub nothing : Shape
nothing = record { items = []; height = 0 }

-- neither height is more than this above the other
abbrev pub DifferByAtMost : ℕ → ℕ → ℕ → Type 0
DifferByAtMost by l r = (l ≤ r + by) × (r ≤ l + by)

-- the height h of what a node with sides of these heights settles to
abbrev pub IsHeightOver : ℕ → ℕ → ℕ → Type 0
IsHeightOver l r h = (max l r ≤ h) × (h ≤ max l r + 1) × (DifferByAtMost 1 l r → h ≡ max l r + 1)
