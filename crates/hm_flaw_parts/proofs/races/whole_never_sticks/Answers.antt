use Rattle.hm_flaw_parts.proofs.Searched.{whole_never_sticks}
use Rattle.hm_flaw_parts.proofs.races.whole_never_sticks.Goals as goal

pub returns : goal.returns
returns c = whole_never_sticks
