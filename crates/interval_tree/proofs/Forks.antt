-- A node by its parts.
use Rattle.std.proofs.Common.{◌≡◌, ◌+◌, List, ◌∷◌, ◌++◌, length, arith, length-append}
use Rattle.interval_tree.specs.declared.node.Interval.{Interval}
use Rattle.interval_tree.specs.Items.{IsSorted}

pub sorted_of : (xs : List Interval) (y : Interval) (ys left : List Interval) (x : Interval) (right : List Interval) → IsSorted (left ++ x ∷ right) → xs ≡ left → y ≡ x → ys ≡ right → IsSorted (xs ++ y ∷ ys)
sorted_of xs y ys left x right s el ei er = rw (el, ei, er) s

pub sides_shorter : (xs : List Interval) (y : Interval) (ys : List Interval) → length (xs ++ y ∷ ys) ≡ length xs + length ys + 1
sides_shorter xs y ys = omega (arith, length-append xs (y ∷ ys))
