use Rattle.std.proofs.Common.{arith}
use Rattle.hm_flaw_states.proofs.Exacts.{paced_next}
use Rattle.hm_flaw_states.proofs.exact_seqs.ExactSeqs.after.Goals as goal

pub invariant_of-result : goal.invariant_of-result
invariant_of-result c = record {
  below = λ p. omega (arith, (paced_next c.args.self.now.kept c.stepped-kept.result 0 c.args.kind.now 2000000 (c.stepped-kept.ensures 0) c.requires).seqs p);
}
