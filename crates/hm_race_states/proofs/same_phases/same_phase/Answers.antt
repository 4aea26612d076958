use Rattle.std.proofs.Common.{sym, ◌∙◌}
use Rattle.hm_race_states.proofs.PhaseTests.{phases}
use Rattle.hm_race_states.proofs.same_phases.same_phase.Goals as goal

pub returns-clause-yes : goal.returns-clause-yes
returns-clause-yes c = λ e. (phases c.args.one.now c.args.other.now).0 (sym c.eq.ensures ∙ e)

pub returns-clause-no : goal.returns-clause-no
returns-clause-no c = λ e. c.eq.ensures ∙ (phases c.args.one.now c.args.other.now).1 e
