use Rattle.hm_linux.proofs.Right.{frames_read_as}
use Rattle.hm_linux.proofs.frames_read_as.Goals as goal

pub returns : goal.returns
returns c = frames_read_as
