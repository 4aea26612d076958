use Rattle.hm_underway_laws.proofs.Refused.{refused_leaves_plain}
use Rattle.hm_underway_laws.proofs.refused_leaves_plain.Goals as goal

pub returns : goal.returns
returns c = refused_leaves_plain
