use Rattle.hm_trace.proofs.TextAgain.{line-again}
use Rattle.hm_trace.proofs.laws.what_is_written_is_read.Goals as goal

pub returns : goal.returns
returns c = line-again
