-- A node of the tree, and what holds of it: the intervals are in order, the sides differ by at most one in height, and
-- the height and the greatest end that the node stores are right.
use Rattle.std.specs.Prelude.{◌≡◌, ◌+◌, ◌≤◌, max, List, ◌∷◌, ◌++◌, length}
use Rattle.interval_tree.specs.declared.node.Interval.{Interval}
use Rattle.interval_tree.specs.declared.node.Inner.{Inner}
use Rattle.interval_tree.specs.declared.node.Node.{Node}
use Rattle.interval_tree.specs.declared.node.Node.TheVariants.{Leaf, Fork}
use Rattle.interval_tree.specs.Shape.{Shape, nothing, DifferByAtMost}
use Rattle.interval_tree.specs.Items.{IsSorted, top_of}

-- the intervals of a node, in order
abbrev pub items_of : Inner → List Interval
items_of n = n.left.items ++ n.interval ∷ n.right.items

-- what contracts see of a node
abbrev pub shape_of : Node → Shape
shape_of Leaf = nothing
shape_of (Fork b) = record { items = items_of b.value; height = b.value.height }

-- what a node stores is right, and its sides are nearly of one height, so that a search takes few steps
pub record IsBalanced (n : Inner) : Type 0 where
  pub sorted : IsSorted (items_of n)
  pub height : n.height ≡ max n.left.height n.right.height + 1
  pub sides : DifferByAtMost 1 n.left.height n.right.height
  pub left_few : n.left.height ≤ length n.left.items
  pub right_few : n.right.height ≤ length n.right.items
  pub top : n.top ≡ top_of (items_of n)

-- the same of a tree, which may be empty
abbrev pub IsAvl : Node → Type 0
IsAvl Leaf = Unit {0}
IsAvl (Fork b) = IsBalanced b.value
