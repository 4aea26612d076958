use Rattle.hm_race_top.proofs.Blocks.{none_twice}
use Rattle.hm_race_top.proofs.text.laws.none_twice.Goals as goal

pub returns : goal.returns
returns c = none_twice
