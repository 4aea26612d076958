use Rattle.hm_view.proofs.Users.{theorem}
use Rattle.hm_view.proofs.laws.users_are_told.Goals as goal

pub returns : goal.returns
returns c = theorem
