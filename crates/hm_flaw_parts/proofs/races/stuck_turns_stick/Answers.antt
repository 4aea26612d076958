use Rattle.hm_flaw_parts.proofs.BrokenTurns.{stuck_turns_stick}
use Rattle.hm_flaw_parts.proofs.races.stuck_turns_stick.Goals as goal

pub returns : goal.returns
returns c = stuck_turns_stick
