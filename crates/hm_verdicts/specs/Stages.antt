-- What a look-up has done last.
use Rattle.hm_protocol.specs.Known as known
use Rattle.hm_verdicts.specs.declared.looks.Stage.{Stage}

-- as the definitions have it
abbrev pub stage_of : Stage → known.Stage
stage_of Stage.Unbegun = known.Stage.Unbegun
stage_of Stage.Begun = known.Stage.Begun
stage_of Stage.Walked = known.Stage.Walked
