use Rattle.hm_race_top.proofs.Witness.{holds_by_witness}
use Rattle.hm_race_top.proofs.text.conditions.laws.holds_by_witness.Goals as goal

pub returns : goal.returns
returns c = holds_by_witness
