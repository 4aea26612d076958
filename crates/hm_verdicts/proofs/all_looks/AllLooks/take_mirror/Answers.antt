use Rattle.hm_verdicts.proofs.Looked.{mirror_set}
use Rattle.hm_verdicts.proofs.all_looks.AllLooks.take_mirror.Goals as goal

pub returns-in-None-clause-none : goal.returns-in-None-clause-none
returns-in-None-clause-none c = mirror_set _ _ _ _ c.take.ensures.none

pub returns-in-Some-clause-none : goal.returns-in-Some-clause-none
returns-in-Some-clause-none c = mirror_set _ _ _ _ c.take.ensures.none
