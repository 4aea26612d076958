use Rattle.hm_trace.proofs.TextAgain.{refused-none}
use Rattle.hm_trace.proofs.laws.what_is_refused_is_no_line.Goals as goal

pub returns : goal.returns
returns c = refused-none
