use Rattle.std.proofs.Common.{◌≡◌, ◌∙◌, ap, sym, subst, true, length}
use Rattle.std.specs.Prelude.{◌+◌, ◌||◌, nat_lt, is_none}
use Rattle.std.specs.List.{list_any}
use Rattle.hm_protocol.specs.Known.{is_slot}
use Rattle.hm_verdicts.specs.Changes.{Adds}
use Rattle.hm_verdicts.proofs.Adds.{adds_dropped, adds_more}
use Rattle.hm_verdicts.proofs.calls.Call.erase.Goals as goal

pub invariant_of-self : goal.invariant_of-self
invariant_of-self c = let s = c.self.inside in
    subst (λ xs. Adds s.after s.late s.copied xs s.left.items) (sym c.drop_page.ensures)
    (adds_dropped s.after s.late s.copied (is_slot c.args.mirror c.args.page) s.here.items s.left.items c.self.invariant)

pub lose-requires : goal.lose-requires
lose-requires c = let s = c.self.inside in
    let some = ap (list_any (is_slot c.args.mirror c.args.page)) (sym c.deref.ensures.value)
    ∙ (sym c.has.ensures ∙ c.if-has.true) in
    subst (λ xs. (is_none s.after || nat_lt (s.late + s.copied + length xs) (length s.left.items)) ≡ true)
    (sym c.drop_page.ensures)
    (adds_more s.after s.late s.copied (is_slot c.args.mirror c.args.page) s.here.items s.left.items c.self.invariant some)
