use Rattle.hm_flaw_parts.proofs.Searched.{whole_breaks_none}
use Rattle.hm_flaw_parts.proofs.races.whole_breaks_none.Goals as goal

pub returns : goal.returns
returns c = whole_breaks_none
