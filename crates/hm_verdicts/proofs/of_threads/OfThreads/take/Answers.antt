use Rattle.std.specs.Prelude.{[]}
use Rattle.hm_verdicts.proofs.Defaults.{default_gone}
use Rattle.hm_verdicts.proofs.of_threads.OfThreads.take.Goals as goal

pub returns-in-None-clause-none : goal.returns-in-None-clause-none
returns-in-None-clause-none g c = default_gone [] _ _ _ c.take.ensures.none

pub returns-in-Some-clause-none : goal.returns-in-Some-clause-none
returns-in-Some-clause-none g c = default_gone [] _ _ _ c.take.ensures.none
