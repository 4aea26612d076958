use Rattle.std.proofs.Common.{◌+◌, sym, subst}
use Rattle.hm_flaw_states.specs.Exact.{IsPaced}
use Rattle.hm_flaw_states.specs.declared.exact_seqs.ExactSeqs.{ExactSeqs}
use Rattle.hm_flaw_states.proofs.Exacts.{paced_next}
use Rattle.hm_flaw_states.proofs.exact_seqs.seqs_after.Goals as goal

pub returns-in_ok-new-in-Start-clause-paced : goal.returns-in_ok-new-in-Start-clause-paced
returns-in_ok-new-in-Start-clause-paced c = λ n h.
    let x = c.args.seqs.now.value in
    let same = c.deref.ensures in
    subst (λ (y : ExactSeqs). IsPaced y.kept (n + 1)) (sym c.in_ok-new-in-Start.ensures.ok)
    (paced_next c.deref.result.now.kept c.after.result.kept 0 c.args.kind.now n (c.after.ensures 0) (subst (λ (y : ExactSeqs). IsPaced y.kept n) (sym same) h))
