use Rattle.std.specs.Prelude.{[]}
use Rattle.hm_verdicts.proofs.Defaults.{default_all}
use Rattle.hm_verdicts.proofs.of_threads.OfThreads.new.Goals as goal

pub returns : goal.returns
returns g c = default_all [] _ c.new.ensures
