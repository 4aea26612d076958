use Rattle.std.proofs.Common.{ap, ◌∙◌}
use Rattle.hm_history.specs.Memory.Sequences.{next_told}
use Rattle.hm_race_states.specs.Small.{kept_seqs}
use Rattle.hm_race_states.specs.declared.small.SmallSeqs.{SmallSeqs}
use Rattle.hm_race_states.proofs.here.HereReads.next_told.Goals as goal

pub returns : goal.returns
returns c = c.next_told.ensures ∙ ap (λ (x : SmallSeqs). next_told (kept_seqs x) c.args.proc c.args.span c.args.after) c.deref.ensures
