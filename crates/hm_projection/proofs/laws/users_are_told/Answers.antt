use Rattle.hm_projection.proofs.Users.{theorem}
use Rattle.hm_projection.proofs.laws.users_are_told.Goals as goal

pub returns : goal.returns
returns c = theorem
