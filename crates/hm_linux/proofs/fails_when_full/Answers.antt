use Rattle.hm_linux.proofs.Wanting.{fails_when_full}
use Rattle.hm_linux.proofs.fails_when_full.Goals as goal

pub returns : goal.returns
returns c = fails_when_full
