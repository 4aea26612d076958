use Rattle.hm_flaw_top.proofs.Named.{names_are_theirs}
use Rattle.hm_flaw_top.proofs.text.names.names_are_theirs.Goals as goal

pub returns : goal.returns
returns c = names_are_theirs
