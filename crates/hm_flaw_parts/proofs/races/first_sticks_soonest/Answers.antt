use Rattle.hm_flaw_parts.proofs.Searched.{first_sticks_soonest}
use Rattle.hm_flaw_parts.proofs.races.first_sticks_soonest.Goals as goal

pub returns : goal.returns
returns c = first_sticks_soonest c.stuck_turns_stick.ensures
