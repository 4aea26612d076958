use Rattle.std.proofs.Common.{◌∙◌}
use Rattle.hm_flaw_states.specs.Owns.{seq_in}
use Rattle.hm_flaw_states.proofs.Finding.{started_same}
use Rattle.hm_flaw_states.proofs.found.FoundReads.seq_started.Goals as goal

pub returns : goal.returns
returns g c = c.seq_started.ensures ∙ started_same (seq_in c.args.self.now.own.now.seqs) (g.W.Reads.state c.args.self.now.world.now).after.sequences c.args.proc c.args.span
