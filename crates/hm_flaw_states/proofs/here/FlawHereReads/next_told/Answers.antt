use Rattle.std.proofs.Common.{ap, ◌∙◌}
use Rattle.hm_history.specs.Memory.Sequences.{next_told}
use Rattle.hm_flaw_states.specs.Exact.{exact_in}
use Rattle.hm_flaw_states.specs.declared.exact_seqs.ExactSeqs.{ExactSeqs}
use Rattle.hm_flaw_states.proofs.here.FlawHereReads.next_told.Goals as goal

pub returns : goal.returns
returns c = c.next_told.ensures ∙ ap (λ (x : ExactSeqs). next_told (exact_in x.kept) c.args.proc c.args.span c.args.after) c.deref.ensures
