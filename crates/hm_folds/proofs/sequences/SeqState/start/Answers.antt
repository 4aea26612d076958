use Rattle.hm_folds.proofs.SeqSteps.{starts}
use Rattle.hm_folds.proofs.sequences.SeqState.start.Goals as goal

pub returns-clause-start : goal.returns-clause-start
returns-clause-start c = starts
