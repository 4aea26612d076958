use Rattle.std.specs.Prelude.{false}
use Rattle.hm_verdicts.proofs.Defaults.{default_all}
use Rattle.hm_verdicts.proofs.flags.Flags.new.Goals as goal

pub returns : goal.returns
returns c = default_all false _ c.new.ensures
