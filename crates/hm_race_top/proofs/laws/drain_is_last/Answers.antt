use Rattle.hm_race_top.proofs.Drain.{drain_is_last}
use Rattle.hm_race_top.proofs.laws.drain_is_last.Goals as goal

pub returns : goal.returns
returns c = drain_is_last c.never_stuck.ensures
