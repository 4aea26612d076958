use Rattle.std.proofs.Common.{◌≡◌, ◌∙◌, ap, arith}
use Rattle.vm_areas.specs.Cuts.{cut}
use Rattle.vm_areas.proofs.Cutting.{rising_cut}
use Rattle.vm_areas.proofs.Areas.cut.Goals as goal

pub invariant_of-self : goal.invariant_of-self
invariant_of-self c =
    let items : c.swap.new.x.items ≡ cut c.args.span c.args.inside c.self.inside.areas.items = ap (λ v. v.items) c.swap.ensures.x_after ∙ c.push_cut.ensures.cut ∙ ap (cut c.args.span c.args.inside) c.deref.ensures.value in
    record {
      areas = record {
        few = rw (items, c.self.view_is) c.requires;
        rising = rw items (rising_cut c.args.span c.args.inside 0 c.self.inside.areas.items c.self.invariant.areas.rising);
      };
      fit = rw c.swap.ensures.x_after (omega (arith, c.push_cut.ensures.room, c.clear.ensures.capacity, c.spare.invariant.fit));
    }
