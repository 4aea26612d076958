use Rattle.hm_script.proofs.Whole.{all_built}
use Rattle.hm_script.proofs.laws.whole_grammar.Goals as goal

pub returns : goal.returns
returns c = all_built
