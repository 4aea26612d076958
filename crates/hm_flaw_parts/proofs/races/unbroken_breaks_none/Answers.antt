use Rattle.hm_flaw_parts.proofs.BrokenTurns.{unbroken_breaks_none}
use Rattle.hm_flaw_parts.proofs.races.unbroken_breaks_none.Goals as goal

pub returns : goal.returns
returns c = unbroken_breaks_none
