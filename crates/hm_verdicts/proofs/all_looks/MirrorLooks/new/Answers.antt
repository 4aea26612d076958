use Rattle.hm_protocol.specs.Known.{no_look}
use Rattle.hm_verdicts.proofs.Defaults.{default_all}
use Rattle.hm_verdicts.proofs.all_looks.MirrorLooks.new.Goals as goal

pub returns : goal.returns
returns c = default_all no_look _ c.new.ensures
