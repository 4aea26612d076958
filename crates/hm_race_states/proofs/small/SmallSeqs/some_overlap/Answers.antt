use Rattle.std.proofs.Common.{ap, ◌∙◌}
use Rattle.std.specs.Prelude.{is_some}
use Rattle.hm_history.specs.Memory.Sequences.{overlapping}
use Rattle.hm_race_states.specs.Small.{kept_seqs}
use Rattle.hm_race_states.proofs.Settled.{any_told}
use Rattle.hm_race_states.proofs.small.SmallSeqs.some_overlap.Goals as goal

pub returns : goal.returns
returns c = c.is_some.ensures ∙ ap is_some c.next_told.ensures ∙ any_told (overlapping (kept_seqs c.args.self.now) c.args.proc c.args.span)
