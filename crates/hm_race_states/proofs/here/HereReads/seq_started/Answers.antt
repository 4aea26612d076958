use Rattle.std.proofs.Common.{ap, ◌∙◌}
use Rattle.hm_history.specs.Memory.Sequences.{seq_started}
use Rattle.hm_race_states.specs.Small.{kept_seqs}
use Rattle.hm_race_states.specs.declared.small.SmallSeqs.{SmallSeqs}
use Rattle.hm_race_states.proofs.here.HereReads.seq_started.Goals as goal

pub returns : goal.returns
returns c = c.seq_started.ensures ∙ ap (λ (x : SmallSeqs). seq_started (kept_seqs x) c.args.proc c.args.span) c.deref.ensures
