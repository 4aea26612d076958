use Rattle.hm_linux.proofs.Untold.{uses_untold_alone}
use Rattle.hm_linux.proofs.untold_alone_is_used.Goals as goal

pub returns : goal.returns
returns c = uses_untold_alone
