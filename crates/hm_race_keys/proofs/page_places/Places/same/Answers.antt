use Rattle.std.proofs.Common.{sym, ap, ◌∙◌, subst}
use Rattle.hm_race_keys.specs.Sparse.{found}
use Rattle.hm_race_keys.specs.PagePlaces.{IsPlaced}
use Rattle.hm_race_keys.proofs.Placing.{places_found}
use Rattle.hm_race_keys.proofs.page_places.Places.same.Goals as goal

pub returns-clause-no : goal.returns-clause-no
returns-clause-no c e =
    c.same.ensures.no (λ r k. ap (λ zs. found zs r k) c.self.view_is ∙ (places_found c.args.self.now c.args.other.now (subst IsPlaced c.self.view_is c.self.invariant) (subst IsPlaced c.other.view_is c.other.invariant) e r k ∙ sym (ap (λ zs. found zs r k) c.other.view_is)))
