use Rattle.hm_race_top.proofs.Blocks.{blocks_are_found}
use Rattle.hm_race_top.proofs.text.laws.blocks_are_found.Goals as goal

pub returns : goal.returns
returns c = blocks_are_found
