use Rattle.hm_trace.proofs.TracesAgain.{refused_after}
use Rattle.hm_trace.proofs.laws.a_bad_line_stays.Goals as goal

pub returns : goal.returns
returns c = refused_after
