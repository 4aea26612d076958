use Rattle.hm_trace.proofs.TextAgain.{line-takes}
use Rattle.hm_trace.proofs.laws.what_is_read_is_written.Goals as goal

pub returns : goal.returns
returns c = line-takes
