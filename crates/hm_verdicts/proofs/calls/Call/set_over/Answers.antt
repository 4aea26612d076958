use Rattle.std.proofs.Common.{sym, subst}
use Rattle.hm_protocol.specs.Known.{is_slot}
use Rattle.hm_verdicts.specs.Changes.{Adds}
use Rattle.hm_verdicts.proofs.Adds.{adds_dropped}
use Rattle.hm_verdicts.proofs.calls.Call.set_over.Goals as goal

pub invariant_of-self : goal.invariant_of-self
invariant_of-self c = let s = c.self.inside in
    subst (λ xs. Adds s.after s.late s.copied xs s.left.items) (sym c.drop_page.ensures)
    (adds_dropped s.after s.late s.copied (is_slot c.args.mirror c.args.page) s.here.items s.left.items c.self.invariant)
