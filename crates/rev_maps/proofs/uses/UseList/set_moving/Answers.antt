use Rattle.std.proofs.Common.{◌∙◌, ap}
use Rattle.std.specs.List.{position_or_len}
use Rattle.rev_maps.specs.Uses.{Uses, is_by, has_use, with_moving}
use Rattle.rev_maps.proofs.Rising.{rising_moving}
use Rattle.rev_maps.proofs.Edits.{mark_is}
use Rattle.rev_maps.proofs.uses.UseList.set_moving.Goals as goal

pub invariant_of-self : goal.invariant_of-self
invariant_of-self c =
    let p = c.position-at.ensures.place ∙ ap (position_or_len (is_by c.args.proc c.args.page)) c.deref.ensures.value in
    let t = ap (λ f. has_use c.args.proc c.args.page f.list) c.self.view_is ∙ c.requires in
    let e = mark_is c.args.proc c.args.page c.self.inside.uses.items c.position-at.result c.index_mut.result.now c.self.invariant t p c.index_mut.ensures.value in
    rw e (rising_moving c.args.proc c.args.page c.self.inside.uses.items ∙ c.self.invariant)

pub returns : goal.returns
returns c =
    let p = c.position-at.ensures.place ∙ ap (position_or_len (is_by c.args.proc c.args.page)) c.deref.ensures.value in
    let t = ap (λ f. has_use c.args.proc c.args.page f.list) c.self.view_is ∙ c.requires in
    let e = mark_is c.args.proc c.args.page c.self.inside.uses.items c.position-at.result c.index_mut.result.now c.self.invariant t p c.index_mut.ensures.value in
    rw e (ap (λ (f : Uses). record f { list = with_moving c.args.proc c.args.page f.list }) c.self.view_is)
