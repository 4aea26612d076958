use Rattle.hm_flaw_parts.proofs.Searched.{first_breaks_soonest}
use Rattle.hm_flaw_parts.proofs.races.first_breaks_soonest.Goals as goal

pub returns : goal.returns
returns c = first_breaks_soonest c.broken_turns_break.ensures
