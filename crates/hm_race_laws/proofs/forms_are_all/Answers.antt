use Rattle.hm_race_laws.proofs.Forms.{forms_are_all}
use Rattle.hm_race_laws.proofs.forms_are_all.Goals as goal

pub returns : goal.returns
returns c = forms_are_all
