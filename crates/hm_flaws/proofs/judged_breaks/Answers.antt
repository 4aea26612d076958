use Rattle.hm_flaws.proofs.Judging.{judged_breaks}
use Rattle.hm_flaws.proofs.judged_breaks.Goals as goal

pub returns : goal.returns
returns c = judged_breaks
