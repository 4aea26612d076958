use Rattle.hm_script.proofs.VersionTwo.{upgraded}
use Rattle.hm_script.proofs.version.upgrade.Goals as goal

pub invariant_of-script : goal.invariant_of-script
invariant_of-script c = upgraded _ c.script.invariant
