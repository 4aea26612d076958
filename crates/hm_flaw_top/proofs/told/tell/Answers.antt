use Rattle.hm_flaw_parts.specs.Judged.{judged_parts}
use Rattle.hm_flaw_top.proofs.Full.{no_memory_fails}
use Rattle.hm_flaw_top.proofs.told.tell.Goals as goal

pub returns-in_default-clause-fails : goal.returns-in_default-clause-fails
returns-in_default-clause-fails c = no_memory_fails c.args.task.which (judged_parts c.args.task.judging) c.args.script.now c.args.set_up.now
