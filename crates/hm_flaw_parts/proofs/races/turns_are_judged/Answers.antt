use Rattle.hm_flaw_parts.proofs.Turns.{turns_are_judged}
use Rattle.hm_flaw_parts.proofs.races.turns_are_judged.Goals as goal

pub returns : goal.returns
returns c = turns_are_judged
