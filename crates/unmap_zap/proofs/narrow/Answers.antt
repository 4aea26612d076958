use Rattle.std.proofs.Common.{ap, ◌∙◌, Some}
use Rattle.hm_reads.proofs.Cursors.{within_none, within_some}
use Rattle.unmap_zap.proofs.narrow.Goals as goal

pub returns-in_err-page : goal.returns-in_err-page
returns-in_err-page g c = c.from_residual.ensures ∙ within_none c.args.span _ _ _ c.end_of.ensures c.in_err-page.ensures

pub returns : goal.returns
returns g c = ap (λ k. Some k) c.without_right.ensures ∙ within_some c.args.span _ _ _ _ c.end_of.ensures c.in_ok-page.ensures
