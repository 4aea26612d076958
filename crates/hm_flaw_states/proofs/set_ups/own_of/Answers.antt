use Rattle.std.proofs.Common.{ap, ◌∙◌}
use Rattle.hm_flaw_states.specs.FrameBytes.{contents_in}
use Rattle.hm_flaw_states.specs.LateSpans.{late_in}
use Rattle.hm_flaw_states.specs.OwnTables.{table_in}
use Rattle.hm_flaw_states.specs.Owns.{seq_in}
use Rattle.hm_history.specs.Memory.Sequences.{interval_seq}
use Rattle.hm_flaw_states.specs.Exact.{exact_in}
use Rattle.hm_flaw_states.specs.States.{state_in}
use Rattle.hm_flaw_states.specs.declared.exact_seqs.ExactSeqs.{ExactSeqs}
use Rattle.hm_flaw_states.proofs.Forms.{right_own}
use Rattle.hm_flaw_states.proofs.set_ups.own_of.Goals as goal

pub returns : goal.returns
returns c =
    right_own (state_in c.args.state.now).after (table_in c.in_ok-copy.field-0) (seq_in c.seqs_of.result) (late_in c.in_ok-new.field-0.of_actors.items) (contents_in c.in_ok-copy-2.field-0)
    (ap table_in (c.in_ok-copy.ensures ∙ c.deref.ensures))
    (λ m. c.seqs_of.ensures m ∙ ap (λ (q : ExactSeqs). interval_seq (exact_in q.kept) m) c.deref-2.ensures)
    c.in_ok-new.ensures (ap contents_in (c.in_ok-copy-2.ensures ∙ c.deref-3.ensures))
