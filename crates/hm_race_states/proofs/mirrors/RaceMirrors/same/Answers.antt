use Rattle.std.proofs.Common.{sym, ap, ◌∙◌, subst}
use Rattle.hm_race_keys.specs.Sparse.{found}
use Rattle.hm_race_states.specs.Mirrors.{AreMirrors}
use Rattle.hm_race_states.proofs.MirrorsRead.{mirrors_found}
use Rattle.hm_race_states.proofs.mirrors.RaceMirrors.same.Goals as goal

pub returns-clause-no : goal.returns-clause-no
returns-clause-no c e =
    c.same.ensures.no (λ r k. ap (λ zs. found zs r k) c.self.view_is ∙ (mirrors_found c.args.self.now c.args.other.now (subst AreMirrors c.self.view_is c.self.invariant) (subst AreMirrors c.other.view_is c.other.invariant) e r k ∙ sym (ap (λ zs. found zs r k) c.other.view_is)))
