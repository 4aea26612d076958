use Rattle.std.proofs.Common.{◌≡◌, ◌∙◌, ap, sym, subst, false}
use Rattle.std.specs.Prelude.{count_by}
use Rattle.hm_verdicts.specs.Settled.{First}
use Rattle.hm_verdicts.proofs.Returned.{is_given}
use Rattle.hm_verdicts.proofs.Settled.{first_count}
use Rattle.hm_verdicts.proofs.all_calls.given_of.Goals as goal

pub returns-then-seq-fresh : goal.returns-then-seq-fresh
returns-then-seq-fresh c =
    let g = c.args.fresh in
    let m = c.args.mirror in
    let q = c.args.seq in
    let cs = c.args.calls.now in
    c.given.ensures ∙ (ap (count_by (is_given m q)) c.rest.ensures
    ∙ first_count (λ x. is_given m q x ≡ false) (is_given m q) (λ x e. e) g.count cs
    (subst (λ z. First (λ x. is_given m z x ≡ false) g.count cs) (sym c.if-seq-fresh.true) c.requires))
