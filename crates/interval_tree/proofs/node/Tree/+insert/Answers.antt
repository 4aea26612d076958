use Rattle.std.proofs.Common.{◌≡◌, ◌<◌, ◌∙◌, length, sym, ap, refl, ◌≤◌, arith}
use Rattle.interval_tree.specs.Shape.{Shape}
use Rattle.interval_tree.specs.Items.{key, with_interval}
use Rattle.interval_tree.specs.Avl.{items_of}
use Rattle.interval_tree.proofs.Order.{lacks_left, lacks_right, sorted_with, with_left, with_right, length-with}
use Rattle.interval_tree.proofs.Forks.{sorted_of, sides_shorter}
use Rattle.interval_tree.proofs.node.Tree.+insert.Goals as goal

pub insert-requires : goal.insert-requires
insert-requires t c =
    let n = c.in-Fork.inner.value in
    let is : c.args.self.now.items ≡ items_of n = ap (λ (s : Shape). s.items) (sym c.in-Fork.ensures.shape) in
    let at : c.deref_mut.result.now ≡ n = c.deref_mut.ensures.value in
    let long = sides_shorter n.left.items n.interval n.right.items in
    let lacks = rw is at c.requires.lacks in
    (omega (arith, long, ap length is, ap (λ m. length m.left.items) at, c.decreases), (c.requires.number, (c.requires.alone, (rw at (lacks_left _ n.left.items n.interval n.right.items lacks), rw at (omega (arith, long, ap length is, c.requires.few))))))

pub rebalanced-requires-clause-sorted : goal.rebalanced-requires-clause-sorted
rebalanced-requires-clause-sorted t c =
    let n = c.in-Fork.inner.value in
    let x = c.args.new.value.interval in
    let is : c.args.self.now.items ≡ items_of n = ap (λ (s : Shape). s.items) (sym c.in-Fork.ensures.shape) in
    let at : c.deref_mut.result.now ≡ n = c.deref_mut.ensures.value in
    let lacks = rw is at c.requires.lacks in
    let good = c.in-Fork.ensures.balanced in
    let below : key x < key n.interval = grind arith in
    let made : c.insert.new.self.items ≡ with_interval x n.left.items = c.insert.ensures.items ∙ ap (λ m. with_interval x m.left.items) at in
    let all = sorted_with x (items_of n) c.requires.number lacks good.sorted in
    let here = rw (with_left x n.left.items n.interval n.right.items below, ← made) at all in
    sorted_of _ _ _ c.insert.new.self.items n.interval n.right.items here refl (ap (λ m. m.interval) at) (ap (λ m. m.right.items) at)

pub rebalanced-requires-clause-few : goal.rebalanced-requires-clause-few
rebalanced-requires-clause-few t c =
    let n = c.in-Fork.inner.value in
    let x = c.args.new.value.interval in
    let is : c.args.self.now.items ≡ items_of n = ap (λ (s : Shape). s.items) (sym c.in-Fork.ensures.shape) in
    let at : c.deref_mut.result.now ≡ n = c.deref_mut.ensures.value in
    let made : c.insert.new.self.items ≡ with_interval x n.left.items = c.insert.ensures.items ∙ ap (λ m. with_interval x m.left.items) at in
    rw (at, made) (omega (arith, sides_shorter (with_interval x n.left.items) n.interval n.right.items, sides_shorter n.left.items n.interval n.right.items, length-with x n.left.items, ap length is, c.requires.few))

pub insert-requires-else-key : goal.insert-requires-else-key
insert-requires-else-key t c =
    let n = c.in-Fork.inner.value in
    let is : c.args.self.now.items ≡ items_of n = ap (λ (s : Shape). s.items) (sym c.in-Fork.ensures.shape) in
    let at : c.deref_mut-else-key.result.now ≡ n = c.deref_mut-else-key.ensures.value in
    let long = sides_shorter n.left.items n.interval n.right.items in
    let lacks = rw is at c.requires.lacks in
    (omega (arith, long, ap length is, ap (λ m. length m.right.items) at, c.decreases), (c.requires.number, (c.requires.alone, (rw at (lacks_right _ n.left.items n.interval n.right.items lacks), rw at (omega (arith, long, ap length is, c.requires.few))))))

pub rebalanced-requires-else-key-clause-sorted : goal.rebalanced-requires-else-key-clause-sorted
rebalanced-requires-else-key-clause-sorted t c =
    let n = c.in-Fork.inner.value in
    let x = c.args.new.value.interval in
    let is : c.args.self.now.items ≡ items_of n = ap (λ (s : Shape). s.items) (sym c.in-Fork.ensures.shape) in
    let at : c.deref_mut-else-key.result.now ≡ n = c.deref_mut-else-key.ensures.value in
    let lacks = rw is at c.requires.lacks in
    let good = c.in-Fork.ensures.balanced in
    let above : key n.interval ≤ key x = grind arith in
    let made : c.insert-else-key.new.self.items ≡ with_interval x n.right.items = c.insert-else-key.ensures.items ∙ ap (λ m. with_interval x m.right.items) at in
    let all = sorted_with x (items_of n) c.requires.number lacks good.sorted in
    let here = rw (with_right x n.left.items n.interval n.right.items above good.sorted, ← made) at all in
    sorted_of _ _ _ n.left.items n.interval c.insert-else-key.new.self.items here (ap (λ m. m.left.items) at) (ap (λ m. m.interval) at) refl

pub rebalanced-requires-else-key-clause-few : goal.rebalanced-requires-else-key-clause-few
rebalanced-requires-else-key-clause-few t c =
    let n = c.in-Fork.inner.value in
    let x = c.args.new.value.interval in
    let is : c.args.self.now.items ≡ items_of n = ap (λ (s : Shape). s.items) (sym c.in-Fork.ensures.shape) in
    let at : c.deref_mut-else-key.result.now ≡ n = c.deref_mut-else-key.ensures.value in
    let made : c.insert-else-key.new.self.items ≡ with_interval x n.right.items = c.insert-else-key.ensures.items ∙ ap (λ m. with_interval x m.right.items) at in
    rw (at, made) (omega (arith, sides_shorter n.left.items n.interval (with_interval x n.right.items), sides_shorter n.left.items n.interval n.right.items, length-with x n.right.items, ap length is, c.requires.few))

pub returns-then-key-clause-items : goal.returns-then-key-clause-items
returns-then-key-clause-items t c =
    let n = c.in-Fork.inner.value in
    let x = c.args.new.value.interval in
    let is : c.args.self.now.items ≡ items_of n = ap (λ (s : Shape). s.items) (sym c.in-Fork.ensures.shape) in
    let at : c.deref_mut.result.now ≡ n = c.deref_mut.ensures.value in
    let below : key x < key n.interval = grind arith in
    let made : c.insert.new.self.items ≡ with_interval x n.left.items = c.insert.ensures.items ∙ ap (λ m. with_interval x m.left.items) at in
    c.rebalanced.ensures.items ∙ rw (at, made, is) (sym (with_left x n.left.items n.interval n.right.items below))

pub returns-else-key-clause-items : goal.returns-else-key-clause-items
returns-else-key-clause-items t c =
    let n = c.in-Fork.inner.value in
    let x = c.args.new.value.interval in
    let is : c.args.self.now.items ≡ items_of n = ap (λ (s : Shape). s.items) (sym c.in-Fork.ensures.shape) in
    let at : c.deref_mut-else-key.result.now ≡ n = c.deref_mut-else-key.ensures.value in
    let above : key n.interval ≤ key x = grind arith in
    let made : c.insert-else-key.new.self.items ≡ with_interval x n.right.items = c.insert-else-key.ensures.items ∙ ap (λ m. with_interval x m.right.items) at in
    c.rebalanced-else-key.ensures.items ∙ rw (at, made, is) (sym (with_right x n.left.items n.interval n.right.items above c.in-Fork.ensures.balanced.sorted))
