use Rattle.hm_laws.proofs.Histories.Sound.{after_is}
use Rattle.hm_laws.proofs.Histories.Stands.{history_is_legal}
use Rattle.hm_flaws.proofs.Rightly.{right_breaks_none}
use Rattle.hm_flaws.proofs.right_breaks_none.Goals as goal

pub returns : goal.returns
returns c = right_breaks_none after_is history_is_legal
