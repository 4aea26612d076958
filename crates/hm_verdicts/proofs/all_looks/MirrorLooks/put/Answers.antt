use Rattle.std.proofs.lemmas.Result.{on_ok_weaker}
use Rattle.hm_protocol.specs.Known.{no_look}
use Rattle.hm_verdicts.proofs.Defaults.{default_set}
use Rattle.hm_verdicts.proofs.all_looks.MirrorLooks.put.Goals as goal

pub returns : goal.returns
returns c = on_ok_weaker _ (default_set no_look _ _ _ _) c.set.ensures
