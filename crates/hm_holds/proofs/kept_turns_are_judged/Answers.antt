use Rattle.hm_holds.proofs.KeptTurns.{kept_turns_are_judged}
use Rattle.hm_holds.proofs.kept_turns_are_judged.Goals as goal

pub returns : goal.returns
returns c = kept_turns_are_judged c.turns_are_judged.ensures
