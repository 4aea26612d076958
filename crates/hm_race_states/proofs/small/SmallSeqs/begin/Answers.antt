use Rattle.std.proofs.Common.{ap, ◌+◌, arith}
use Rattle.hm_history.specs.Memory.Sequences.{Sequences}
use Rattle.hm_race_states.specs.Small.{kept_seqs}
use Rattle.hm_race_states.proofs.Betweens.{process_kept}
use Rattle.hm_race_states.proofs.small.SmallSeqs.begin.Goals as goal

pub returns : goal.returns
returns c = λ a q.
    let y = c.spread-next.result in
    let s = kept_seqs c.args.self.now in
    process_kept y y.intervals s c.number-at.result c.args.proc c.seq_started.result (c.active.result + 1) _ _ s.interval c.spread-next.ensures c.number-at.ensures.same (omega arith) (omega arith)
    c.seq_started.ensures (ap (λ n. n + 1) c.active.ensures) (ap (λ (z : Sequences). z.interval) c.spread-next.ensures)
