use Rattle.std.proofs.Common.{sym, ap, ◌∙◌}
use Rattle.hm_folds.specs.Standing.{accepts_frames}
use Rattle.hm_flaw_states.specs.States.{all_places}
use Rattle.hm_flaw_states.proofs.here.FlawHere.accepts_frames.Goals as goal

pub returns-in-Committed : goal.returns-in-Committed
returns-in-Committed c = c.may_commit.ensures ∙ ap (accepts_frames c.args.self.now.script.now (all_places c.args.self.now.state.now)) (sym c.in-Committed.is)
