use Rattle.hm_flaw_parts.proofs.BrokenTurns.{unstuck_never_sticks}
use Rattle.hm_flaw_parts.proofs.races.unstuck_never_sticks.Goals as goal

pub returns : goal.returns
returns c = unstuck_never_sticks
