use Rattle.std.proofs.Common.{◌≡◌, ◌∙◌, ap, arith, ◌<◌, length, set, get_or}
use Rattle.std.proofs.lemmas.List.{with_items_is}
use Rattle.hm_verdicts.proofs.Mapping.{mapped_to, mapped_more, mapped_all}
use Rattle.hm_verdicts.proofs.newest_first.change_items.Goals as goal

pub loop-item-preserved : goal.loop-item-preserved
loop-item-preserved g c =
    let f = g.C.Changes.made c.args.how.now in
    let i = c.loop-item.item-index in
    let below : i < length c.args.items.now.items =
    omega (arith, c.loop-item-test.true, ap length c.deref_mut-item-items.ensures.value) in
    ap (λ ys. set ys i c.change.new.item) c.loop-item.invariant
    ∙ mapped_more f i c.args.items.now.items c.item-item.result c.change.new.item below
    (c.in_ok-change.ensures ∙ ap (λ ys. f (get_or ys i c.item-item.result)) c.loop-item.invariant)

pub returns : goal.returns
returns g c =
    let f = g.C.Changes.made c.args.how.now in
    let same : length c.loop-item.item-items ≡ length c.args.items.now.items =
    c.loop-item.auto.item-items ∙ ap length c.deref_mut-item-items.ensures.value in
    let whole : c.loop-item.item-index ≡ length c.args.items.now.items =
    omega (arith, c.loop-item-test.false, c.loop-item.auto.item-index-end, same, ap length c.deref_mut-item-items.ensures.value) in
    with_items_is c.args.items.now c.loop-item.item-items (c.loop-item.auto.item-items ∙ c.deref_mut-item-items.ensures.len)
    ∙ (c.loop-item.invariant ∙ (ap (λ n. mapped_to f n c.args.items.now.items) whole ∙ mapped_all f c.args.items.now.items))
