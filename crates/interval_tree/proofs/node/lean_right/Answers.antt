use Rattle.std.proofs.Common.{◌≡◌, ◌∷◌, ◌++◌, arith, ap}
use Rattle.interval_tree.specs.Shape.{Shape}
use Rattle.interval_tree.proofs.Order.{sorted_back, sorted_inner_left, sorted_inner_right}
use Rattle.interval_tree.proofs.Forks.{sorted_of}
use Rattle.interval_tree.proofs.node.lean_right.Goals as goal

pub closed-requires-clause-sorted : goal.closed-requires-clause-sorted
closed-requires-clause-sorted c =
    let n = c.args.inner.value in
    let r = c.in-Fork.right.value in
    let is : n.right.items ≡ r.left.items ++ r.interval ∷ r.right.items = grind (arith, ap (λ (s : Shape). s.items) c.in-Fork.ensures.shape) in
    let s = rw is at c.requires.sorted in
    sorted_of _ _ _ n.left.items n.interval r.left.items (sorted_inner_left _ _ _ _ _ s) (grind arith) (grind arith) (grind arith)

pub closed-requires-2-clause-sorted : goal.closed-requires-2-clause-sorted
closed-requires-2-clause-sorted c =
    let n = c.args.inner.value in
    let r = c.in-Fork.right.value in
    let m = c.in-Fork-take.middle.value in
    let is : n.right.items ≡ r.left.items ++ r.interval ∷ r.right.items = grind (arith, ap (λ (s : Shape). s.items) c.in-Fork.ensures.shape) in
    let s = rw is at c.requires.sorted in
    let inner_is : r.left.items ≡ m.left.items ++ m.interval ∷ m.right.items = grind (arith, ap (λ (s : Shape). s.items) c.in-Fork-take.ensures.shape) in
    let t = rw inner_is at s in
    sorted_of _ _ _ m.right.items r.interval r.right.items (sorted_inner_right _ _ _ _ _ (sorted_back _ _ _ t)) (grind arith) (grind arith) (grind arith)

pub closed-requires-3-clause-sorted : goal.closed-requires-3-clause-sorted
closed-requires-3-clause-sorted c =
    let n = c.args.inner.value in
    let r = c.in-Fork.right.value in
    let m = c.in-Fork-take.middle.value in
    let is : n.right.items ≡ r.left.items ++ r.interval ∷ r.right.items = grind (arith, ap (λ (s : Shape). s.items) c.in-Fork.ensures.shape) in
    let s = rw is at c.requires.sorted in
    let inner_is : r.left.items ≡ m.left.items ++ m.interval ∷ m.right.items = grind (arith, ap (λ (s : Shape). s.items) c.in-Fork-take.ensures.shape) in
    let t = rw inner_is at s in
    sorted_of _ _ _ n.left.items n.interval m.left.items (sorted_inner_left _ _ _ _ _ (sorted_inner_left _ _ _ _ _ t)) (grind arith) (grind arith) (grind arith)
