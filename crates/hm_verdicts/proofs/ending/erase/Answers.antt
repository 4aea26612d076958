use Rattle.std.proofs.Common.{ap, ◌∙◌, not}
use Rattle.hm_protocol.specs.Rules.{first_call}
use Rattle.hm_verdicts.specs.Ending.{erase_if}
use Rattle.hm_verdicts.specs.Knowledge.{known_of}
use Rattle.hm_verdicts.proofs.ending.erase.Goals as goal

pub returns : goal.returns
unfolding erase_if
returns c = let k = known_of c.args.knowledge.now in
    c.erase_in.ensures ∙ ap (λ b. first_call (erase_if b) k) (ap not c.some_late.ensures)
