use Rattle.std.proofs.Common.{sym, ap, ◌∙◌}
use Rattle.hm_race_keys.specs.Sparse.{found}
use Rattle.hm_flaw_states.proofs.Committed.{commits_found}
use Rattle.hm_flaw_states.proofs.commits.FrameCommits.same.Goals as goal

pub returns-clause-no : goal.returns-clause-no
returns-clause-no c e =
    c.same.ensures.no (λ r k. ap (λ zs. found zs r k) c.self.view_is ∙ (commits_found c.args.self.now c.args.other.now e r k ∙ sym (ap (λ zs. found zs r k) c.other.view_is)))
