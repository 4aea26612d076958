use Rattle.hm_view.proofs.Told.{changes_are_told}
use Rattle.hm_view.proofs.laws.changes_are_told.Goals as goal

pub returns : goal.returns
returns c = changes_are_told
