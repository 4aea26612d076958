use Rattle.std.proofs.Common.{◌∙◌, ap, arith, IsOk}
use Rattle.std.specs.List.{position_or_len}
use Rattle.rev_maps.specs.Uses.{precedes, has_use}
use Rattle.rev_maps.proofs.Rising.{rising_with}
use Rattle.rev_maps.proofs.Edits.{position_le, insert_is, is_added}
use Rattle.rev_maps.proofs.uses.UseList.add_reserved.Goals as goal
use Rattle.hm_base.proofs.Shared.{when_ok}

pub insert-requires : goal.insert-requires
insert-requires c =
    let p = c.place-at.ensures ∙ ap (position_or_len (precedes c.args.used)) c.deref.ensures.value in
    omega (arith, p, position_le (precedes c.args.used) c.self.inside.uses.items, c.self.inside.uses.ok.0)

pub invariant_of-self : goal.invariant_of-self
invariant_of-self c =
    let p = c.place-at.ensures ∙ ap (position_or_len (precedes c.args.used)) c.deref.ensures.value in
    let ok : IsOk c.insert.result = c.insert.ensures.succeeds (omega (arith, c.requires.room, ap (λ f. f.room) c.self.view_is)) in
    let e = insert_is c.args.used c.self.inside.uses.items _ c.place-at.result p (when_ok c.insert.result _ _ _ ok c.insert.ensures.items) in
    rw e (rising_with c.args.used c.self.inside.uses.items c.self.invariant (ap (λ f. has_use c.args.used.proc c.args.used.page f.list) c.self.view_is ∙ c.requires.new))

pub returns : goal.returns
returns c =
    let p = c.place-at.ensures ∙ ap (position_or_len (precedes c.args.used)) c.deref.ensures.value in
    let ok : IsOk c.insert.result = c.insert.ensures.succeeds (omega (arith, c.requires.room, ap (λ f. f.room) c.self.view_is)) in
    let e = insert_is c.args.used c.self.inside.uses.items _ c.place-at.result p (when_ok c.insert.result _ _ _ ok c.insert.ensures.items) in
    let n = when_ok c.insert.result _ _ _ ok c.insert.ensures.len in
    is_added c.args.used _ _ _ _ c.self.view_is e (omega (arith, n, c.insert.ensures.in_place (omega (arith, c.requires.room, ap (λ f. f.room) c.self.view_is))))
