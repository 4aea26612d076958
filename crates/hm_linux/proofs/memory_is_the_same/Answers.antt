use Rattle.hm_linux.proofs.Absent.{memory_is_the_same}
use Rattle.hm_linux.proofs.memory_is_the_same.Goals as goal

pub returns : goal.returns
returns c = memory_is_the_same
