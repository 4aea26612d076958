use Rattle.hm_view.proofs.Told.{each_change_is_told}
use Rattle.hm_view.proofs.laws.each_change_is_told.Goals as goal

pub returns : goal.returns
returns c = each_change_is_told
