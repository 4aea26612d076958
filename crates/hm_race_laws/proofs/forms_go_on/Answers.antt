use Rattle.hm_race_laws.proofs.Forms.{forms_go_on}
use Rattle.hm_race_laws.proofs.forms_go_on.Goals as goal

pub returns : goal.returns
returns c = forms_go_on
