use Rattle.std.proofs.Common.{[]}
use Rattle.hm_view.proofs.laws.legal_is_due.Goals as goal
use Rattle.hm_history.proofs.RunLemmas.{legal_due}

pub returns : goal.returns
returns c = λ s h l. legal_due s [] h l
