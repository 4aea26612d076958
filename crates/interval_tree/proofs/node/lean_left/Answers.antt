use Rattle.std.proofs.Common.{◌≡◌, ◌∷◌, ◌++◌, arith, ap}
use Rattle.interval_tree.specs.Shape.{Shape}
use Rattle.interval_tree.proofs.Order.{sorted_front, sorted_inner_left, sorted_inner_right}
use Rattle.interval_tree.proofs.Forks.{sorted_of}
use Rattle.interval_tree.proofs.node.lean_left.Goals as goal

pub closed-requires-clause-sorted : goal.closed-requires-clause-sorted
closed-requires-clause-sorted c =
    let n = c.args.inner.value in
    let l = c.in-Fork.left.value in
    let is : n.left.items ≡ l.left.items ++ l.interval ∷ l.right.items = grind (arith, ap (λ (s : Shape). s.items) c.in-Fork.ensures.shape) in
    let s = rw is at c.requires.sorted in
    sorted_of _ _ _ l.right.items n.interval n.right.items (sorted_inner_right _ _ _ _ _ s) (grind arith) (grind arith) (grind arith)

pub closed-requires-2-clause-sorted : goal.closed-requires-2-clause-sorted
closed-requires-2-clause-sorted c =
    let n = c.args.inner.value in
    let l = c.in-Fork.left.value in
    let m = c.in-Fork-take.middle.value in
    let is : n.left.items ≡ l.left.items ++ l.interval ∷ l.right.items = grind (arith, ap (λ (s : Shape). s.items) c.in-Fork.ensures.shape) in
    let s = rw is at c.requires.sorted in
    let inner_is : l.right.items ≡ m.left.items ++ m.interval ∷ m.right.items = grind (arith, ap (λ (s : Shape). s.items) c.in-Fork-take.ensures.shape) in
    let t = rw inner_is at s in
    sorted_of _ _ _ l.left.items l.interval m.left.items (sorted_inner_left _ _ _ _ _ (sorted_front _ _ t)) (grind arith) (grind arith) (grind arith)

pub closed-requires-3-clause-sorted : goal.closed-requires-3-clause-sorted
closed-requires-3-clause-sorted c =
    let n = c.args.inner.value in
    let l = c.in-Fork.left.value in
    let m = c.in-Fork-take.middle.value in
    let is : n.left.items ≡ l.left.items ++ l.interval ∷ l.right.items = grind (arith, ap (λ (s : Shape). s.items) c.in-Fork.ensures.shape) in
    let s = rw is at c.requires.sorted in
    let inner_is : l.right.items ≡ m.left.items ++ m.interval ∷ m.right.items = grind (arith, ap (λ (s : Shape). s.items) c.in-Fork-take.ensures.shape) in
    let t = rw inner_is at s in
    sorted_of _ _ _ m.right.items n.interval n.right.items (sorted_inner_right _ _ _ _ _ (sorted_inner_right _ _ _ _ _ t)) (grind arith) (grind arith) (grind arith)
