use Rattle.hm_judge.proofs.Users.{theorem}
use Rattle.hm_judge.proofs.laws.users_are_told.Goals as goal

pub returns : goal.returns
returns c = theorem
