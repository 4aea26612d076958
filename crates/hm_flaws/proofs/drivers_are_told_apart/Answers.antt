use Rattle.hm_flaws.proofs.ToldApart.{told_apart}
use Rattle.hm_flaws.proofs.drivers_are_told_apart.Goals as goal

pub returns : goal.returns
returns c = told_apart
