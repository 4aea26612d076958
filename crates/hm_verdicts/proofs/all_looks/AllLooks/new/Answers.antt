use Rattle.hm_verdicts.proofs.Looked.{none_at_all}
use Rattle.hm_verdicts.proofs.all_looks.AllLooks.new.Goals as goal

pub returns : goal.returns
returns c = none_at_all _ c.new.ensures
