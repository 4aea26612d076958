use Rattle.hm_top.proofs.Users.{answers}
use Rattle.hm_top.proofs.laws.calls_answer_so.Goals as goal

pub returns : goal.returns
returns c = answers
