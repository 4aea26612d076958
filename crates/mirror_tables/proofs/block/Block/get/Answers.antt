use Rattle.std.proofs.Common.{Some, ap, ◌∙◌}
use Rattle.mirror_tables.specs.Blocks.{entry_at}
use Rattle.mirror_tables.proofs.Places.{place_as, has_as, has_not_as, find_old, find_none, nowhere}
use Rattle.mirror_tables.proofs.block.Block.get.Goals as goal

pub returns-then-has_page : goal.returns-then-has_page
returns-then-has_page c =
    let es = c.self.inside.entries.items in
    let p = place_as _ es _ c.args.page _ c.deref.ensures.value c.number.ensures.same c.place-at.ensures in
    let h = has_as _ es _ _ c.args.page _ c.deref-2.ensures.value c.number-2.ensures.same c.has_page.ensures c.if-has_page.true in
    ap (λ x. Some x.1) c.index.ensures ∙ (find_old es c.args.page c.place-at.result c.index.result.now p h.0 h.1 ∙ ap (λ t. entry_at t c.args.page) c.self.view_is)

pub returns-else-has_page : goal.returns-else-has_page
returns-else-has_page c =
    let es = c.self.inside.entries.items in
    let p = place_as _ es _ c.args.page _ c.deref.ensures.value c.number.ensures.same c.place-at.ensures in
    let h = has_not_as _ es _ _ c.args.page _ c.deref-2.ensures.value c.number-2.ensures.same c.has_page.ensures c.if-has_page.false in
    find_none es c.args.page (nowhere es c.args.page c.place-at.result p h c.self.invariant.rising) ∙ ap (λ t. entry_at t c.args.page) c.self.view_is
