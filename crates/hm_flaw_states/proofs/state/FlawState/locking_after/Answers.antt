use Rattle.std.proofs.Common.{ap, ◌∙◌}
use Rattle.hm_history.specs.Memory.Sequences.{sequences_next}
use Rattle.hm_flaw_states.specs.Seqs.{seqs_in}
use Rattle.hm_flaw_states.specs.declared.exact_seqs.ExactSeqs.{ExactSeqs}
use Rattle.hm_flaw_states.proofs.state.FlawState.locking_after.Goals as goal

pub returns : goal.returns
returns c = record {
  frames = c.in_ok-locks_after.ensures;
  maps = c.in_ok-maps_after.ensures;
  seqs = c.in_ok-seqs_after.ensures.next;
  paced = c.in_ok-seqs_after.ensures.paced;
  guards = c.in_ok-guards_after.ensures ∙ ap (λ (q : ExactSeqs). (sequences_next (seqs_in q c.args.self.now.guards.value) c.args.actor c.args.kind.now).guard) c.deref.ensures;
}
