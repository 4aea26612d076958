use Rattle.std.proofs.Common.{ap, sym, ◌∙◌}
use Rattle.hm_folds.specs.Windows.{mirrors_of, mirrors_next}
use Rattle.hm_folds.proofs.windows.step.Goals as goal

pub returns-in-Attached : goal.returns-in-Attached
returns-in-Attached c = c.attach.ensures 0 ∙ sym (ap (mirrors_next (mirrors_of c.args.mirrors.now)) c.in-Attached.is)
