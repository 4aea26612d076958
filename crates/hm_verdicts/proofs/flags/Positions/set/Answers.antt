use Rattle.std.proofs.lemmas.Result.{on_ok_weaker}
use Rattle.hm_verdicts.proofs.Defaults.{default_set}
use Rattle.hm_verdicts.proofs.flags.Positions.set.Goals as goal

pub returns : goal.returns
returns c = on_ok_weaker _ (default_set 0 _ _ _ _) c.set.ensures
