use Rattle.std.proofs.Common.{IsOk, ap, sym, ◌∙◌, arith}
use Rattle.mirror_tables.specs.Blocks.{with_entry}
use Rattle.mirror_tables.proofs.Places.{place_as, has_as, has_not_as, put_old, put_new, changed_as}
use Rattle.mirror_tables.proofs.Kept.{set_kept, insert_kept}
use Rattle.mirror_tables.proofs.block.Block.set_reserved.Goals as goal
use Rattle.hm_base.proofs.Shared.{when_ok}

pub invariant_of-self : goal.invariant_of-self
invariant_of-self c =
    let es = c.self.inside.entries.items in
    let p = place_as _ es _ c.args.page _ c.deref.ensures.value c.number.ensures.same c.place-at.ensures in
    let h = has_as _ es _ _ c.args.page _ c.deref-2.ensures.value c.number-2.ensures.same c.has_page.ensures c.if-has_page.true in
    set_kept es c.place-at.result c.args.page c.args.entry c.self.invariant h.1

pub invariant_of-self-else-has_page : goal.invariant_of-self-else-has_page
invariant_of-self-else-has_page c =
    let es = c.self.inside.entries.items in
    let p = place_as _ es _ c.args.page _ c.deref.ensures.value c.number.ensures.same c.place-at.ensures in
    let h = has_not_as _ es _ _ c.args.page _ c.deref-2.ensures.value c.number-2.ensures.same c.has_page.ensures c.if-has_page.false in
    let ok : IsOk c.insert.result = c.insert.ensures.succeeds (omega (arith, c.requires.room, ap (λ t. t.room) c.self.view_is)) in
    let e = when_ok c.insert.result _ _ _ ok c.insert.ensures.items in
    rw e (insert_kept es c.place-at.result c.args.page c.args.entry c.self.invariant p h)

pub returns-then-has_page-clause-block : goal.returns-then-has_page-clause-block
returns-then-has_page-clause-block c =
    let es = c.self.inside.entries.items in
    let p = place_as _ es _ c.args.page _ c.deref.ensures.value c.number.ensures.same c.place-at.ensures in
    let h = has_as _ es _ _ c.args.page _ c.deref-2.ensures.value c.number-2.ensures.same c.has_page.ensures c.if-has_page.true in
    changed_as _ _ _ _ (λ t. with_entry t c.args.page c.args.entry) c.self.view_is (sym (put_old es c.args.page c.place-at.result c.args.entry p h.0 h.1))

pub returns-else-has_page-clause-block : goal.returns-else-has_page-clause-block
returns-else-has_page-clause-block c =
    let es = c.self.inside.entries.items in
    let p = place_as _ es _ c.args.page _ c.deref.ensures.value c.number.ensures.same c.place-at.ensures in
    let h = has_not_as _ es _ _ c.args.page _ c.deref-2.ensures.value c.number-2.ensures.same c.has_page.ensures c.if-has_page.false in
    let ok : IsOk c.insert.result = c.insert.ensures.succeeds (omega (arith, c.requires.room, ap (λ t. t.room) c.self.view_is)) in
    let e = when_ok c.insert.result _ _ _ ok c.insert.ensures.items in
    changed_as _ _ _ _ (λ t. with_entry t c.args.page c.args.entry) c.self.view_is (e ∙ sym (put_new es c.args.page c.place-at.result c.args.entry p h))
