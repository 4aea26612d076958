use Rattle.hm_protocol.proofs.RightRacesCome.{all_come}
use Rattle.hm_protocol.proofs.right_races_are_unblamed.Goals as goal

pub returns : goal.returns
returns c = all_come
