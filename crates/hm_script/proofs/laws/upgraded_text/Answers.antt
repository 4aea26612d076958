use Rattle.hm_script.proofs.VersionTwo.{upgraded_text}
use Rattle.hm_script.proofs.laws.upgraded_text.Goals as goal

pub returns : goal.returns
returns c = upgraded_text
