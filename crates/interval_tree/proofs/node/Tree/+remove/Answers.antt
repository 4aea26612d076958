use Rattle.std.proofs.Common.{◌≡◌, ◌<◌, ◌∙◌, length, sym, ap, refl, arith}
use Rattle.interval_tree.specs.Shape.{Shape}
use Rattle.interval_tree.specs.Items.{key, without_key}
use Rattle.interval_tree.specs.Avl.{items_of}
use Rattle.interval_tree.proofs.Order.{sorted_joined, sorted_without, without_left, without_right, without_middle, length-without}
use Rattle.interval_tree.proofs.Forks.{sorted_of, sides_shorter}
use Rattle.interval_tree.proofs.node.Tree.+remove.Goals as goal

pub rebalanced-requires-clause-sorted : goal.rebalanced-requires-clause-sorted
rebalanced-requires-clause-sorted t c =
    let n = c.in-Fork.inner.value in
    let k = c.args.at in
    let at : c.deref_mut.result.now ≡ n = c.deref_mut.ensures.value in
    let good = c.in-Fork.ensures.balanced in
    let below : k < key n.interval = grind arith in
    let made : c.remove.new.self.items ≡ without_key k n.left.items = c.remove.ensures.items ∙ ap (λ m. without_key k m.left.items) at in
    let all = sorted_without k (items_of n) good.sorted in
    let here = rw (without_left k n.left.items n.interval n.right.items below good.sorted, ← made) at all in
    sorted_of _ _ _ c.remove.new.self.items n.interval n.right.items here refl (ap (λ m. m.interval) at) (ap (λ m. m.right.items) at)

pub rebalanced-requires-clause-few : goal.rebalanced-requires-clause-few
rebalanced-requires-clause-few t c =
    let n = c.in-Fork.inner.value in
    let k = c.args.at in
    let is : c.args.self.now.items ≡ items_of n = ap (λ (s : Shape). s.items) (sym c.in-Fork.ensures.shape) in
    let at : c.deref_mut.result.now ≡ n = c.deref_mut.ensures.value in
    let made : c.remove.new.self.items ≡ without_key k n.left.items = c.remove.ensures.items ∙ ap (λ m. without_key k m.left.items) at in
    rw (at, made) (omega (arith, sides_shorter (without_key k n.left.items) n.interval n.right.items, sides_shorter n.left.items n.interval n.right.items, length-without k n.left.items, ap length is, c.requires))

pub rebalanced-requires-then-here-at-clause-sorted : goal.rebalanced-requires-then-here-at-clause-sorted
rebalanced-requires-then-here-at-clause-sorted t c =
    let n = c.in-Fork.inner.value in
    let k = c.args.at in
    let at : c.deref_mut-then-here-at.result.now ≡ n = c.deref_mut-then-here-at.ensures.value in
    let good = c.in-Fork.ensures.balanced in
    let above : key n.interval < k = grind arith in
    let made : c.remove-then-here-at.new.self.items ≡ without_key k n.right.items = c.remove-then-here-at.ensures.items ∙ ap (λ m. without_key k m.right.items) at in
    let all = sorted_without k (items_of n) good.sorted in
    let here = rw (without_right k n.left.items n.interval n.right.items above good.sorted, ← made) at all in
    sorted_of _ _ _ n.left.items n.interval c.remove-then-here-at.new.self.items here (ap (λ m. m.left.items) at) (ap (λ m. m.interval) at) refl

pub rebalanced-requires-then-here-at-clause-few : goal.rebalanced-requires-then-here-at-clause-few
rebalanced-requires-then-here-at-clause-few t c =
    let n = c.in-Fork.inner.value in
    let k = c.args.at in
    let is : c.args.self.now.items ≡ items_of n = ap (λ (s : Shape). s.items) (sym c.in-Fork.ensures.shape) in
    let at : c.deref_mut-then-here-at.result.now ≡ n = c.deref_mut-then-here-at.ensures.value in
    let made : c.remove-then-here-at.new.self.items ≡ without_key k n.right.items = c.remove-then-here-at.ensures.items ∙ ap (λ m. without_key k m.right.items) at in
    rw (at, made) (omega (arith, sides_shorter n.left.items n.interval (without_key k n.right.items), sides_shorter n.left.items n.interval n.right.items, length-without k n.right.items, ap length is, c.requires))

pub joined-requires-clause-sorted : goal.joined-requires-clause-sorted
joined-requires-clause-sorted t c =
    let n = c.in-Fork.inner.value in
    let at : c.deref_mut-else-here-at.result.now ≡ n = c.deref_mut-else-here-at.ensures.value in
    rw (c.take_sides-left.ensures.left, c.take_sides-left.ensures.right, at) (sorted_joined n.left.items n.interval n.right.items c.in-Fork.ensures.balanced.sorted)

pub returns-then-at-here-clause-items : goal.returns-then-at-here-clause-items
returns-then-at-here-clause-items t c =
    let n = c.in-Fork.inner.value in
    let k = c.args.at in
    let is : c.args.self.now.items ≡ items_of n = ap (λ (s : Shape). s.items) (sym c.in-Fork.ensures.shape) in
    let at : c.deref_mut.result.now ≡ n = c.deref_mut.ensures.value in
    let below : k < key n.interval = grind arith in
    let made : c.remove.new.self.items ≡ without_key k n.left.items = c.remove.ensures.items ∙ ap (λ m. without_key k m.left.items) at in
    c.rebalanced.ensures.items ∙ rw (at, made, is) (sym (without_left k n.left.items n.interval n.right.items below c.in-Fork.ensures.balanced.sorted))

pub returns-then-here-at-clause-items : goal.returns-then-here-at-clause-items
returns-then-here-at-clause-items t c =
    let n = c.in-Fork.inner.value in
    let k = c.args.at in
    let is : c.args.self.now.items ≡ items_of n = ap (λ (s : Shape). s.items) (sym c.in-Fork.ensures.shape) in
    let at : c.deref_mut-then-here-at.result.now ≡ n = c.deref_mut-then-here-at.ensures.value in
    let above : key n.interval < k = grind arith in
    let made : c.remove-then-here-at.new.self.items ≡ without_key k n.right.items = c.remove-then-here-at.ensures.items ∙ ap (λ m. without_key k m.right.items) at in
    c.rebalanced-then-here-at.ensures.items ∙ rw (at, made, is) (sym (without_right k n.left.items n.interval n.right.items above c.in-Fork.ensures.balanced.sorted))

pub returns-else-here-at-clause-items : goal.returns-else-here-at-clause-items
returns-else-here-at-clause-items t c =
    let n = c.in-Fork.inner.value in
    let is : c.args.self.now.items ≡ items_of n = ap (λ (s : Shape). s.items) (sym c.in-Fork.ensures.shape) in
    let at : c.deref_mut-else-here-at.result.now ≡ n = c.deref_mut-else-here-at.ensures.value in
    let same : c.args.at ≡ key n.interval = grind arith in
    c.joined.ensures.items ∙ rw (c.take_sides-left.ensures.left, c.take_sides-left.ensures.right, at, is, same) (sym (without_middle n.left.items n.interval n.right.items c.in-Fork.ensures.balanced.sorted))
