use Rattle.std.proofs.Common.{ap, ◌∙◌}
use Rattle.std.specs.Prelude.{option_map}
use Rattle.hm_history.specs.Memory.Sequences.{Interval}
use Rattle.hm_flaw_states.specs.Exact.{exact_in}
use Rattle.hm_flaw_states.specs.declared.exact_seqs.ExactSeqs.{ExactSeqs}
use Rattle.hm_flaw_states.proofs.here.FlawHereDetails.interval_proc.Goals as goal

pub returns : goal.returns
returns c = c.owner.ensures ∙ ap (λ (q : ExactSeqs). option_map (λ (x : Interval). x.proc) ((exact_in q.kept).interval c.args.mirror)) c.deref.ensures
