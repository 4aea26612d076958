use Rattle.std.proofs.Common.{take}
use Rattle.hm_flaw_states.specs.SetUps.{IsAfter}
use Rattle.hm_flaw_states.proofs.set_ups.after_set_up.Given as goal

abbrev pub invariant-loop-entry : goal.invariant-loop-entry
invariant-loop-entry g l = IsAfter l.script (take l.entry-index l.set_up) l.so_far
