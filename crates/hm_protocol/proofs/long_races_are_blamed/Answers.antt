use Rattle.hm_protocol.proofs.LongRacesCome.{all_come}
use Rattle.hm_protocol.proofs.long_races_are_blamed.Goals as goal

pub returns : goal.returns
returns c = all_come
