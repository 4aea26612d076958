use Rattle.hm_flaw_top.proofs.Asked.{words_are_tasks}
use Rattle.hm_flaw_top.proofs.text.task.words_are_tasks.Goals as goal

pub returns : goal.returns
returns c = words_are_tasks
