use Rattle.std.proofs.Common.{◌∙◌}
use Rattle.hm_flaw_states.specs.Owns.{seq_in}
use Rattle.hm_flaw_states.proofs.Finding.{told_same}
use Rattle.hm_flaw_states.proofs.found.FoundReads.next_told.Goals as goal

pub returns : goal.returns
returns g c = c.next_told.ensures ∙ told_same (seq_in c.args.self.now.own.now.seqs) (g.W.Reads.state c.args.self.now.world.now).after.sequences c.args.proc c.args.span c.args.after
