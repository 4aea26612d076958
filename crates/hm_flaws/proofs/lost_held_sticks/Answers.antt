use Rattle.hm_flaws.proofs.Computed.{lost_held_sticks}
use Rattle.hm_flaws.proofs.lost_held_sticks.Goals as goal

pub returns : goal.returns
returns c = lost_held_sticks
