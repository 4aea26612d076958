use Rattle.std.proofs.Common.{◌∙◌, ap, arith, ◌<◌, ◌≤◌, length, set, get_or}
use Rattle.hm_verdicts.proofs.Mapping.{mapped_more, mapped_past}
use Rattle.hm_verdicts.proofs.newest_first.change_from.Goals as goal

pub loop-number-preserved : goal.loop-number-preserved
loop-number-preserved g c =
    let f = g.C.Changes.made c.args.how.now in
    let cs = c.args.items.now.items in
    let i = c.loop-number.number in
    let d = c.index_mut.result.now in
    let below : i < length cs = omega (arith, c.loop-number-test.true, c.len-number-end.ensures, c.args.items.now.ok) in
    ap (λ ys. set ys i c.change.new.item) c.loop-number.invariant
    ∙ mapped_more f i cs d c.change.new.item below
    (c.in_ok-change.ensures ∙ ap f (c.index_mut.ensures.value ∙ ap (λ ys. get_or ys i d) c.loop-number.invariant))

pub returns : goal.returns
returns g c =
    let f = g.C.Changes.made c.args.how.now in
    let cs = c.args.items.now.items in
    let i = c.loop-number.number in
    let past : length cs ≤ i = omega (arith, c.loop-number-test.false, c.len-number-end.ensures, c.args.items.now.ok) in
    c.loop-number.invariant ∙ mapped_past f i cs past
