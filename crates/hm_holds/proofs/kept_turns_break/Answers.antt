use Rattle.hm_holds.proofs.Sure.{kept_turns_break}
use Rattle.hm_holds.proofs.kept_turns_break.Goals as goal

pub returns : goal.returns
returns c = kept_turns_break c.turns_are_judged.ensures c.broken_turns_break.ensures c.held_races_are_systems.ensures
