use Rattle.hm_laws.proofs.Histories.Stands.{frames_read}
use Rattle.hm_laws.proofs.frames_read.Goals as goal

pub returns : goal.returns
returns c = frames_read
