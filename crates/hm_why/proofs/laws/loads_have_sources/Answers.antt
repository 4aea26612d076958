use Rattle.hm_why.proofs.Loads.{loads_have_sources}
use Rattle.hm_why.proofs.laws.loads_have_sources.Goals as goal

pub returns : goal.returns
returns c = loads_have_sources
