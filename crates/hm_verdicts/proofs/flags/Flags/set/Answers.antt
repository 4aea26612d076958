use Rattle.std.proofs.lemmas.Result.{on_ok_weaker}
use Rattle.std.specs.Prelude.{false}
use Rattle.hm_verdicts.proofs.Defaults.{default_set}
use Rattle.hm_verdicts.proofs.flags.Flags.set.Goals as goal

pub returns : goal.returns
returns c = on_ok_weaker _ (default_set false _ _ _ _) c.set.ensures
