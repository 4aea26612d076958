use Rattle.std.proofs.Common.{◌∙◌, ap, arith}
use Rattle.std.specs.List.{position_or_len}
use Rattle.rev_maps.specs.Uses.{is_by}
use Rattle.rev_maps.proofs.Rising.{rising_without}
use Rattle.rev_maps.proofs.Edits.{remove_is, is_removed}
use Rattle.rev_maps.proofs.uses.UseList.remove.Goals as goal

pub invariant_of-self : goal.invariant_of-self
invariant_of-self c =
    let p = c.position-at.ensures.place ∙ ap (position_or_len (is_by c.args.proc c.args.page)) c.deref.ensures.value in
    let e = remove_is c.args.proc c.args.page c.self.inside.uses.items _ c.position-at.result c.self.invariant p c.remove.ensures.items in
    rw e (rising_without c.args.proc c.args.page c.self.inside.uses.items c.self.invariant)

pub returns : goal.returns
returns c =
    let p = c.position-at.ensures.place ∙ ap (position_or_len (is_by c.args.proc c.args.page)) c.deref.ensures.value in
    let e = remove_is c.args.proc c.args.page c.self.inside.uses.items _ c.position-at.result c.self.invariant p c.remove.ensures.items in
    is_removed c.args.proc c.args.page _ _ _ _ c.self.view_is e (omega (arith, c.remove.ensures.len, c.remove.ensures.capacity, c.self.inside.uses.ok.1))
