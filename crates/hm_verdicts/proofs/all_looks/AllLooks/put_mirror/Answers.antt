use Rattle.std.proofs.lemmas.Result.{on_ok_weaker}
use Rattle.hm_verdicts.proofs.Looked.{mirror_set}
use Rattle.hm_verdicts.proofs.all_looks.AllLooks.put_mirror.Goals as goal

pub returns : goal.returns
returns c = on_ok_weaker _ (mirror_set _ _ _ _) c.set.ensures
