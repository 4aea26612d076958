use Rattle.hm_flaw_parts.proofs.BrokenTurns.{unbroken_breaks_later}
use Rattle.hm_flaw_parts.proofs.races.unbroken_breaks_later.Goals as goal

pub returns : goal.returns
returns c = unbroken_breaks_later
