use Rattle.hm_flaw_parts.proofs.BrokenTurns.{broken_turns_break}
use Rattle.hm_flaw_parts.proofs.races.broken_turns_break.Goals as goal

pub returns : goal.returns
returns c = broken_turns_break c.judged_breaks.ensures
