use Rattle.hm_parts.proofs.Showing.{shown_are_right}
use Rattle.hm_parts.proofs.laws.shown_sequences_are_right.Goals as goal

pub returns : goal.returns
returns c = shown_are_right
