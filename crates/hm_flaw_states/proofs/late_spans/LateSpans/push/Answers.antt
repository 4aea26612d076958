use Rattle.std.proofs.Common.{arith}
use Rattle.hm_flaw_states.proofs.Late.{pushed}
use Rattle.hm_flaw_states.proofs.late_spans.LateSpans.push.Goals as goal

pub returns : goal.returns
returns c = pushed c.args.self.now.of_actors.items c.number.result c.args.actor c.args.span c.index_mut-own.result.now _ c.number.ensures.same (omega arith) c.index_mut-own.ensures.value c.in_ok-push.ensures.items
