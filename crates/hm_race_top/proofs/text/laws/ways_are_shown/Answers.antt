use Rattle.hm_race_top.proofs.Blocks.{ways_are_shown}
use Rattle.hm_race_top.proofs.text.laws.ways_are_shown.Goals as goal

pub returns : goal.returns
returns c = ways_are_shown
