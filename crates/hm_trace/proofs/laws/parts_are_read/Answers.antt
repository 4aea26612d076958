use Rattle.hm_trace.proofs.TracesAgain.{read_after}
use Rattle.hm_trace.proofs.laws.parts_are_read.Goals as goal

pub returns : goal.returns
returns c = read_after
