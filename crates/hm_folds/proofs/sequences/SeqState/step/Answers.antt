use Rattle.std.proofs.Common.{ap, sym, ◌∙◌}
use Rattle.hm_history.specs.Memory.Sequences.{sequences_accept, sequences_next}
use Rattle.hm_folds.specs.Kept.{sequences_of}
use Rattle.hm_folds.proofs.sequences.SeqState.step.Goals as goal

pub begin_guard-requires : goal.begin_guard-requires
begin_guard-requires c = sym (ap (sequences_accept (sequences_of c.args.self.now) c.args.actor) c.in-Start.is) ∙ c.requires

pub returns-in-Start : goal.returns-in-Start
returns-in-Start c = c.begin_guard.ensures ∙ sym (ap (sequences_next (sequences_of c.args.self.now) c.args.actor) c.in-Start.is)

pub returns-in-Attached : goal.returns-in-Attached
returns-in-Attached c = c.attach.ensures c.args.actor 0 ∙ sym (ap (sequences_next (sequences_of c.args.self.now) c.args.actor) c.in-Attached.is)
