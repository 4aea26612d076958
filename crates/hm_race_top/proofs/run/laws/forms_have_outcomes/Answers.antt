use Rattle.hm_race_top.proofs.Outcomes.{forms_have_outcomes}
use Rattle.hm_race_top.proofs.run.laws.forms_have_outcomes.Goals as goal

pub returns : goal.returns
returns c = forms_have_outcomes
