use Rattle.hm_holds.proofs.Sure.{sure_breaks}
use Rattle.hm_holds.proofs.sure_breaks.Goals as goal

pub returns : goal.returns
returns c = sure_breaks c.kept_turns_break.ensures
