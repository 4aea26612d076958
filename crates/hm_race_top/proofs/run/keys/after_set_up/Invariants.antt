use Rattle.std.proofs.Common.{take}
use Rattle.hm_race_top.specs.Run.Turns.{Shows}
use Rattle.hm_race_top.proofs.run.keys.after_set_up.Given as goal

abbrev pub invariant-loop-entry : goal.invariant-loop-entry
invariant-loop-entry l = Shows l.script (take l.entry-index l.set_up) l.state
