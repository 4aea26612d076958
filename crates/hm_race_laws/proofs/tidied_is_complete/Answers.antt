use Rattle.hm_race_laws.proofs.Tidied.{tidied_is_complete}
use Rattle.hm_race_laws.proofs.tidied_is_complete.Goals as goal

pub returns : goal.returns
returns c = tidied_is_complete
