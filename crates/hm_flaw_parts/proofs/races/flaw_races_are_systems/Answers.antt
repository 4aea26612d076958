use Rattle.hm_flaw_parts.proofs.Systems.{flaw_races_are_systems}
use Rattle.hm_flaw_parts.proofs.races.flaw_races_are_systems.Goals as goal

pub returns : goal.returns
returns c = flaw_races_are_systems
