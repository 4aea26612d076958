use Rattle.std.proofs.Common.{sym, ap, ◌∙◌}
use Rattle.hm_race_keys.specs.Sparse.{found}
use Rattle.hm_race_keys.proofs.Ordered.{same_found}
use Rattle.hm_race_keys.proofs.sparse.Sparse.same.Goals as goal

pub returns-clause-no : goal.returns-clause-no
returns-clause-no g c e =
    c.same_items.ensures.no (c.as_slice.ensures.value ∙ (same_found 0 0 c.self.inside.items.items c.other.inside.items.items c.self.invariant c.other.invariant (λ r k. ap (λ zs. found zs r k) c.self.view_is ∙ (e r k ∙ sym (ap (λ zs. found zs r k) c.other.view_is))) ∙ sym c.as_slice-2.ensures.value))
