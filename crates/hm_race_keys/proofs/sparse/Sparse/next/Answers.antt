use Rattle.std.proofs.Common.{◌≡◌, Some, None, subst}
use Rattle.std.specs.Prelude.{slice_get}
use Rattle.hm_race_keys.specs.Sparse.{place_of, found, IsNextIn}
use Rattle.hm_race_keys.proofs.Ordered.{next_none, next_some, next_other}
use Rattle.hm_race_keys.proofs.sparse.Sparse.next.Goals as goal

pub returns-in-None : goal.returns-in-None
returns-in-None g c =
    let ws = c.self.inside.items.items in
    let at : slice_get ws (place_of c.args.row c.args.from ws) ≡ None = cc (c.in-None.ensures, c.as_slice.ensures.value) in
    subst (λ zs. IsNextIn (found zs c.args.row) c.args.from None) c.self.view_is (next_none c.args.row c.args.from ws c.self.invariant at)

pub returns-then-item-row : goal.returns-then-item-row
returns-then-item-row g c =
    let ws = c.self.inside.items.items in
    let at : slice_get ws (place_of c.args.row c.args.from ws) ≡ Some c.in-Some.item = cc (c.in-Some.ensures, c.as_slice.ensures.value) in
    subst (λ zs. IsNextIn (found zs c.args.row) c.args.from (Some (c.in-Some.item.number, c.in-Some.item.value))) c.self.view_is (next_some c.args.row c.args.from ws c.in-Some.item c.self.invariant at c.if-item-row.true)

pub returns-else-item-row : goal.returns-else-item-row
returns-else-item-row g c =
    let ws = c.self.inside.items.items in
    let at : slice_get ws (place_of c.args.row c.args.from ws) ≡ Some c.in-Some.item = cc (c.in-Some.ensures, c.as_slice.ensures.value) in
    subst (λ zs. IsNextIn (found zs c.args.row) c.args.from None) c.self.view_is (next_other c.args.row c.args.from ws c.in-Some.item c.self.invariant at c.if-item-row.false)
