use Rattle.std.proofs.Common.{arith, ap}
use Rattle.interval_tree.proofs.Order.{top_of-append}
use Rattle.interval_tree.proofs.Forks.{sorted_of}
use Rattle.interval_tree.proofs.node.Tree.closed.Goals as goal

pub invariant_of-result : goal.invariant_of-result
invariant_of-result c =
    let n = c.args.inner.value in
    let is = c.deref_mut-node.ensures.value in
    record {
      sorted = sorted_of _ _ _ n.left.items n.interval n.right.items c.requires.sorted (ap (λ m. m.left.items) is) (ap (λ m. m.interval) is) (ap (λ m. m.right.items) is);
      height = grind arith;
      sides = rw is c.requires.sides;
      left_few = c.height.ensures.few;
      right_few = c.height-2.ensures.few;
      top = grind (arith, top_of-append n.left.items n.interval n.right.items);
    }
