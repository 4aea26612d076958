use Rattle.hm_protocol.proofs.ShortRacesCome.{all_come}
use Rattle.hm_protocol.proofs.short_races_are_blamed.Goals as goal

pub returns : goal.returns
returns c = all_come
