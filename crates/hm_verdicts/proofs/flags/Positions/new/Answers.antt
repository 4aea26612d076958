use Rattle.hm_verdicts.proofs.Defaults.{default_all}
use Rattle.hm_verdicts.proofs.flags.Positions.new.Goals as goal

pub returns : goal.returns
returns c = default_all 0 _ c.new.ensures
