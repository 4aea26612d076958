use Rattle.hm_trace.proofs.TracesAgain.{trace-again}
use Rattle.hm_trace.proofs.laws.one_trace.Goals as goal

pub returns : goal.returns
returns c = trace-again
