use Rattle.std.proofs.Common.{ap, ◌∙◌}
use Rattle.std.specs.Prelude.{is_some}
use Rattle.hm_history.specs.Memory.Sequences.{overlapping}
use Rattle.hm_flaw_states.specs.Exact.{exact_in}
use Rattle.hm_race_states.proofs.Settled.{any_told}
use Rattle.hm_flaw_states.proofs.exact_seqs.ExactSeqs.some_overlap.Goals as goal

pub returns : goal.returns
returns c = c.is_some.ensures ∙ ap is_some c.next_told.ensures ∙ any_told (overlapping (exact_in c.args.self.now.kept) c.args.proc c.args.span)
