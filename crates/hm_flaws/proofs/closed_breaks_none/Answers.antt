use Rattle.hm_flaws.proofs.Exact.{closed_breaks_none}
use Rattle.hm_flaws.proofs.closed_breaks_none.Goals as goal

pub returns : goal.returns
returns c = closed_breaks_none
