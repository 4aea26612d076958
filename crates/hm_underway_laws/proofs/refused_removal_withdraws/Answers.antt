use Rattle.hm_underway_laws.proofs.Refused.{refused_removal_withdraws}
use Rattle.hm_underway_laws.proofs.refused_removal_withdraws.Goals as goal

pub returns : goal.returns
returns c = refused_removal_withdraws
