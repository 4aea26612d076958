-- The interval tree may go from thread to thread. It reaches itself: where a tree may, so may one that is a layer deeper.
use denote.Param.Send.{IsSend, sendable}
use denote.Model.Local.{Parts, rows}
use denote.Model.Goals.{send, one_law, tied_goals, has_of, part_has}
use Rattle.std.proofs.Crossing.{crosses}
use Rattle.interval_tree.specs.contracts.node.Tree as Tree
use Rattle.interval_tree.specs.contracts.node.Tree.TheKnot as knot
use Rattle.interval_tree.specs.declared.node.Tree.TheDeep.{the_members, member-Tree}

-- one layer, where the trees in it may
module _ (p : Parts knot.frame) (all : (i : the_members) → IsSend (rows knot.frame p i)) where
  at_inner : IsSend (knot.at-Inner p)
  at_inner = record {
    owned = λ d vs x. (
      tt,
      (
        (λ y. (tt, (((λ z. (tt, ((tt, tt), tt))), (λ q. tt)), (((λ z. (tt, (((λ u. (tt, ((tt, tt), tt))), (λ q. tt)), ((tt, tt), tt)))), (λ q. tt)), tt)))),
        ((all member-Tree).owned d.left x.1.0, ((all member-Tree).owned d.right x.1.1.0, ((tt, tt), ((tt, tt), tt)))),
      ),
    );
    leaving = λ k d w. (tt, (tt, (tt, tt)));
  }

  at_node : IsSend (knot.at-Node p)
  at_node = search (at_inner, sendable, crosses) depth 60 fits 8000

  at_tree : IsSend (knot.at-Tree p)
  at_tree = search (at_node, sendable, crosses) depth 60 fits 8000

  view_tree : IsSend (knot.view-Tree p)
  view_tree = search (at_node, sendable, crosses) depth 60 fits 8000

steps : (p : Parts knot.frame) → ((i : the_members) → IsSend (rows knot.frame p i)) → (i : the_members) → IsSend (rows knot.frame (knot.step p) i)
steps p all member-Tree = has_of knot.frame send (knot.step p) member-Tree (λ d. part_has send (knot.view-Tree p) (view_tree p all) d)

pub tree : IsSend Tree.the_row
tree = tied_goals knot.frame knot.step knot.sizes (one_law the_members send) steps member-Tree
