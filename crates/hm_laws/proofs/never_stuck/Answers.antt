use Rattle.hm_laws.proofs.Waits.NeverStuck.{never_stuck}
use Rattle.hm_laws.proofs.never_stuck.Goals as goal

pub returns : goal.returns
returns c = never_stuck
