use Rattle.std.proofs.Common.{subst, sym, ◌∙◌}
use Rattle.hm_verdicts.specs.Settled.{First, IsOver}
use Rattle.hm_verdicts.proofs.Settled.{first_fixed, first_kept}
use Rattle.hm_verdicts.proofs.over.change.Goals as goal

pub change_from-requires : goal.change_from-requires
change_from-requires g c =
    first_fixed (g.C.Changes.made c.args.how.now) c.args.over.count c.args.calls.now.items c.requires.same

pub settle-requires : goal.settle-requires
settle-requires g c = let o = c.args.over in
    subst (First (IsOver o) o.count) (sym (c.deref.ensures.value ∙ c.in_ok-change_from.ensures))
    (first_kept (IsOver o) (g.C.Changes.made c.args.how.now) o.count c.args.calls.now.items c.requires.held
    c.requires.same)
