use Rattle.hm_linux.proofs.Reasons.{kept_for_reasons}
use Rattle.hm_linux.proofs.kept_for_reasons.Goals as goal

pub returns : goal.returns
returns c = kept_for_reasons
