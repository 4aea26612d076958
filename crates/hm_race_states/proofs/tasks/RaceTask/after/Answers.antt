use Rattle.std.proofs.Common.{sym}
use Rattle.hm_race_states.proofs.tasks.RaceTask.after.Goals as goal

pub after_top-requires-clause-takes : goal.after_top-requires-clause-takes
after_top-requires-clause-takes c = c.requires _ (sym c.in-Some.ensures.op)
