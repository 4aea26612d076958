use Rattle.hm_race_laws.proofs.Forms.{forms_end_alike}
use Rattle.hm_race_laws.proofs.forms_end_alike.Goals as goal

pub returns : goal.returns
returns c = forms_end_alike
