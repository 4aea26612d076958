use Rattle.hm_race_laws.proofs.Tidied.{blurred_is_complete}
use Rattle.hm_race_laws.proofs.blurred_is_complete.Goals as goal

pub returns : goal.returns
returns c = blurred_is_complete
