use Rattle.std.proofs.Common.{ap, ◌∙◌, arith}
use Rattle.hm_history.specs.Memory.Sequences.{with_seq, interval_proc}
use Rattle.hm_folds.specs.Kept.{interval_of}
use Rattle.hm_race_states.specs.Small.{kept_seqs}
use Rattle.hm_race_states.proofs.Betweens.{interval_kept}
use Rattle.hm_race_states.proofs.small.SmallSeqs.tell.Goals as goal

pub returns : goal.returns
returns c = λ a q r.
    let s = kept_seqs c.args.self.now in
    let m = c.args.mirror in
    let read = c.process_seq-of_process.ensures ∙ ap s.seq c.interval_proc.ensures in
    interval_kept c.spread-next.result s c.number-at.result m c.with_seq.result _ c.spread-next.ensures c.number-at.ensures.same (omega arith)
    (c.with_seq.ensures ∙ ap (λ q. with_seq q (interval_of c.interval.result)) read ∙ ap (with_seq (s.seq (interval_proc s m))) c.interval.ensures)
