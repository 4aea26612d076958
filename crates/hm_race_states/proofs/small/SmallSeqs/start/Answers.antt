use Rattle.hm_race_states.proofs.Settled.{starts}
use Rattle.hm_race_states.proofs.small.SmallSeqs.start.Goals as goal

pub returns : goal.returns
returns c = starts c.new.result.items c.new.ensures.items
