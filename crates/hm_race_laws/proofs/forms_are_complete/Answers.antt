use Rattle.hm_race_laws.proofs.Tidied.{forms_are_complete}
use Rattle.hm_race_laws.proofs.forms_are_complete.Goals as goal

pub returns : goal.returns
returns c = forms_are_complete
