use Rattle.hm_linux.proofs.Plainly.{reads_are_plain}
use Rattle.hm_linux.proofs.reads_are_plain.Goals as goal

pub returns : goal.returns
returns c = reads_are_plain
