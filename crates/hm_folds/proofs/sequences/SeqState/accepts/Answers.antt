use Rattle.std.proofs.Common.{ap, sym, ◌∙◌}
use Rattle.hm_history.specs.Memory.Sequences.{sequences_accept}
use Rattle.hm_folds.specs.Kept.{sequences_of}
use Rattle.hm_folds.proofs.sequences.SeqState.accepts.Goals as goal

pub returns-in-Start : goal.returns-in-Start
returns-in-Start c = c.may_start.ensures ∙ sym (ap (sequences_accept (sequences_of c.args.self.now) c.args.actor) c.in-Start.is)

pub returns-in-Attached : goal.returns-in-Attached
returns-in-Attached c = c.is_inserted.ensures ∙ sym (ap (sequences_accept (sequences_of c.args.self.now) c.args.actor) c.in-Attached.is)
