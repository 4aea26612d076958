use Rattle.std.proofs.Common.{ap, ◌∙◌}
use Rattle.hm_history.specs.Memory.Sequences.{seq_started}
use Rattle.hm_flaw_states.specs.Exact.{exact_in}
use Rattle.hm_flaw_states.specs.declared.exact_seqs.ExactSeqs.{ExactSeqs}
use Rattle.hm_flaw_states.proofs.here.FlawHereReads.seq_started.Goals as goal

pub returns : goal.returns
returns c = c.seq_started.ensures ∙ ap (λ (x : ExactSeqs). seq_started (exact_in x.kept) c.args.proc c.args.span) c.deref.ensures
