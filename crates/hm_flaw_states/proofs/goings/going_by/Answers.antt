use Rattle.std.proofs.Common.{option_copied, ◌∙◌}
use Rattle.hm_race_states.specs.Tasks.{going_in}
use Rattle.hm_flaw_states.proofs.Leaving.{goes_by}
use Rattle.hm_flaw_states.proofs.goings.going_by.Goals as goal

pub returns-in_ok-with_flaw-in_default : goal.returns-in_ok-with_flaw-in_default
returns-in_ok-with_flaw-in_default c =
    c.in_ok-with_flaw-in_default.ensures ∙ goes_by c.args.flaw (option_copied c.args.op) c.args.at c.args.before.now c.args.kind.now (going_in c.args.task) c.in_default.not-NoFlaw
