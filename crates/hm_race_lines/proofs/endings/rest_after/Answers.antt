use Rattle.hm_race_lines.proofs.Texts.{rest_is}
use Rattle.hm_race_lines.proofs.endings.rest_after.Goals as goal

pub returns : goal.returns
returns c = rest_is c.args.head.now c.args.text.now c.strip_front.result c.strip_front.ensures
