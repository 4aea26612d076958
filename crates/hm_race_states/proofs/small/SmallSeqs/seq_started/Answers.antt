use Rattle.hm_race_states.specs.Small.{kept_seqs}
use Rattle.hm_race_states.proofs.Settled.{odd_started}
use Rattle.hm_race_states.proofs.small.SmallSeqs.seq_started.Goals as goal

pub returns-then-is_odd : goal.returns-then-is_odd
returns-then-is_odd c = odd_started (kept_seqs c.args.self.now) c.args.proc c.args.span c.is_odd.result c.is_odd.ensures.seq c.if-is_odd.true
