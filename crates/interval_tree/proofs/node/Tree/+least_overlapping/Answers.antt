use Rattle.std.proofs.Common.{◌≡◌, ◌+◌, ◌≤◌, ◌∙◌, sym, ap, subst, arith}
use Rattle.interval_tree.specs.Shape.{Shape}
use Rattle.interval_tree.specs.declared.node.Node.{Node}
use Rattle.interval_tree.specs.Items.{top_of, is_wanted, least_id}
use Rattle.interval_tree.specs.Avl.{items_of, shape_of, IsAvl, IsBalanced}
use Rattle.interval_tree.proofs.Order.{sorted_from}
use Rattle.interval_tree.proofs.Least.{least_id-append, least_id-below, least_id-left}
use Rattle.interval_tree.proofs.node.Tree.+least_overlapping.Goals as goal

pub returns-then-deref-number : goal.returns-then-deref-number
returns-then-deref-number t c =
    let n = c.in-Fork.inner.value in
    let good : IsBalanced n = subst IsAvl c.in-Fork.is c.self.invariant in
    let is : c.args.self.now.items ≡ items_of n = sym (ap (λ (s : Shape). s.items) c.self.view_is) ∙ ap (λ (m : Node). (shape_of m).items) c.in-Fork.is in
    let low : top_of (items_of n) ≤ c.args.span.now.first = grind (arith, good.top) in
    rw is (sym (least_id-below c.args.span.now c.args.from (items_of n) low))

pub returns-then-number-count : goal.returns-then-number-count
returns-then-number-count t c =
    let n = c.in-Fork.inner.value in
    let good : IsBalanced n = subst IsAvl c.in-Fork.is c.self.invariant in
    let is : c.args.self.now.items ≡ items_of n = sym (ap (λ (s : Shape). s.items) c.self.view_is) ∙ ap (λ (m : Node). (shape_of m).items) c.in-Fork.is in
    let above : c.args.span.now.first + c.args.span.now.count ≤ n.interval.span.first = grind arith in
    let left : c.least_overlapping-left.result ≡ least_id (is_wanted c.args.span.now c.args.from) n.left.items = grind arith in
    left ∙ rw is (sym (least_id-left c.args.span.now c.args.from n.left.items n.interval n.right.items (sorted_from n.left.items n.interval n.right.items good.sorted) above))

pub returns-else-number-count : goal.returns-else-number-count
returns-else-number-count t c =
    let n = c.in-Fork.inner.value in
    let is : c.args.self.now.items ≡ items_of n = sym (ap (λ (s : Shape). s.items) c.self.view_is) ∙ ap (λ (m : Node). (shape_of m).items) c.in-Fork.is in
    rw (is, least_id-append (is_wanted c.args.span.now c.args.from) n.left.items n.interval n.right.items) (grind arith)
