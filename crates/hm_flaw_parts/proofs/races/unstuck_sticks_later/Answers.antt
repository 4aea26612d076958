use Rattle.hm_flaw_parts.proofs.BrokenTurns.{unstuck_sticks_later}
use Rattle.hm_flaw_parts.proofs.races.unstuck_sticks_later.Goals as goal

pub returns : goal.returns
returns c = unstuck_sticks_later
