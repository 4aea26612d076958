use Rattle.hm_why.proofs.Loads.{loads_lie_in_a_page}
use Rattle.hm_why.proofs.laws.loads_lie_in_a_page.Goals as goal

pub returns : goal.returns
returns c = loads_lie_in_a_page
