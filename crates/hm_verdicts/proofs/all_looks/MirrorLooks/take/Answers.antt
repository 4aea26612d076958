use Rattle.hm_protocol.specs.Known.{no_look}
use Rattle.hm_verdicts.proofs.Defaults.{default_gone}
use Rattle.hm_verdicts.proofs.all_looks.MirrorLooks.take.Goals as goal

pub returns-in-None-clause-none : goal.returns-in-None-clause-none
returns-in-None-clause-none c = default_gone no_look _ _ _ c.take.ensures.none

pub returns-in-Some-clause-none : goal.returns-in-Some-clause-none
returns-in-Some-clause-none c = default_gone no_look _ _ _ c.take.ensures.none
