use Rattle.hm_race_top.proofs.Systems.{races_are_systems}
use Rattle.hm_race_top.proofs.run.laws.races_are_systems.Goals as goal

pub returns : goal.returns
returns c = races_are_systems c.forms_go_alike.ensures
