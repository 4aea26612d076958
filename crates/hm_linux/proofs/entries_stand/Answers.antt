use Rattle.hm_linux.proofs.Right.{entries_stand}
use Rattle.hm_linux.proofs.entries_stand.Goals as goal

pub returns : goal.returns
returns c = entries_stand
