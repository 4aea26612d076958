use Rattle.std.proofs.lemmas.Result.{on_ok_weaker}
use Rattle.std.specs.Prelude.{[]}
use Rattle.hm_verdicts.proofs.Defaults.{default_set}
use Rattle.hm_verdicts.proofs.of_threads.OfThreads.put.Goals as goal

pub returns : goal.returns
returns g c = on_ok_weaker _ (default_set [] _ _ _ _) c.set.ensures
