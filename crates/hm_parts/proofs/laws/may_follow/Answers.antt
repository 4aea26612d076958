use Rattle.hm_parts.proofs.Saying.{all_parts_say}
use Rattle.hm_parts.proofs.laws.may_follow.Goals as goal

pub returns : goal.returns
returns c = all_parts_say
