use Rattle.hm_trace_top.proofs.Users.{theorem}
use Rattle.hm_trace_top.proofs.laws.users_are_told.Goals as goal

pub returns : goal.returns
returns c = theorem
