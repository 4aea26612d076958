use Rattle.hm_race_lines.proofs.Outcomes as outcomes
use Rattle.hm_race_lines.proofs.laws.lines_may_end.Goals as goal

pub returns : goal.returns
returns c = outcomes.lines_may_end
