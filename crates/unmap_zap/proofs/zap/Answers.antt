use Rattle.std.proofs.Common.{◌∙◌}
use Rattle.hm_reads.proofs.Cursors.{within_none, within_some}
use Rattle.unmap_zap.proofs.zap.Goals as goal

pub returns-in_err-page : goal.returns-in_err-page
returns-in_err-page g c = c.from_residual.ensures ∙ within_none c.args.span _ _ _ c.end_of.ensures c.in_err-page.ensures

pub returns : goal.returns
returns g c = within_some c.args.span _ _ _ _ c.end_of.ensures c.in_ok-page.ensures
