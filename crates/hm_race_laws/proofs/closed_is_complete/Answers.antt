use Rattle.hm_race_laws.proofs.Whole.{closed_is_complete}
use Rattle.hm_race_laws.proofs.closed_is_complete.Goals as goal

pub returns : goal.returns
returns c = closed_is_complete
