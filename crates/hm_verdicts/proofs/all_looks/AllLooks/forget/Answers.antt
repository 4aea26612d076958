use Rattle.std.specs.Prelude.{None}
use Rattle.hm_verdicts.proofs.Looked.{mirror_set, none_begun}
use Rattle.hm_verdicts.proofs.all_looks.AllLooks.forget.Goals as goal

pub returns : goal.returns
returns c = none_begun _ _ c.args.mirror (mirror_set _ _ _ None c.take.ensures.none)
