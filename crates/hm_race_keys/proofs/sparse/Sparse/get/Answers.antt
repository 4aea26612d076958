use Rattle.std.proofs.Common.{◌≡◌, Some, None, sym, ap, ◌∙◌}
use Rattle.std.specs.Prelude.{slice_get}
use Rattle.hm_race_keys.specs.Sparse.{place_of, found}
use Rattle.hm_race_keys.proofs.Ordered.{found_none, found_some, found_other}
use Rattle.hm_race_keys.proofs.sparse.Sparse.get.Goals as goal

pub returns-in-None : goal.returns-in-None
returns-in-None g c =
    let ws = c.self.inside.items.items in
    let at : slice_get ws (place_of c.args.row c.args.number ws) ≡ None = cc (c.in-None.ensures, c.as_slice.ensures.value) in
    found_none c.args.row c.args.number ws c.self.invariant at ∙ ap (λ zs. found zs c.args.row c.args.number) c.self.view_is

pub returns-then-stands_at : goal.returns-then-stands_at
returns-then-stands_at g c =
    let ws = c.self.inside.items.items in
    let at : slice_get ws (place_of c.args.row c.args.number ws) ≡ Some c.in-Some.item = cc (c.in-Some.ensures, c.as_slice.ensures.value) in
    found_some c.args.row c.args.number ws c.in-Some.item c.self.invariant at (sym c.stands_at.ensures ∙ c.if-stands_at.true) ∙ ap (λ zs. found zs c.args.row c.args.number) c.self.view_is

pub returns-else-stands_at : goal.returns-else-stands_at
returns-else-stands_at g c =
    let ws = c.self.inside.items.items in
    let at : slice_get ws (place_of c.args.row c.args.number ws) ≡ Some c.in-Some.item = cc (c.in-Some.ensures, c.as_slice.ensures.value) in
    found_other c.args.row c.args.number ws c.in-Some.item c.self.invariant at (sym c.stands_at.ensures ∙ c.if-stands_at.false) ∙ ap (λ zs. found zs c.args.row c.args.number) c.self.view_is
