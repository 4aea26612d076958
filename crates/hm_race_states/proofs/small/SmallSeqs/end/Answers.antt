use Rattle.std.proofs.Common.{◌-◌, ap, ◌∙◌, arith}
use Rattle.std.proofs.Math.Path.{fun_ext}
use Rattle.hm_history.specs.Memory.Sequences.{Sequences, applied}
use Rattle.hm_folds.proofs.SeqSteps.{last_ended, not_ended}
use Rattle.hm_race_states.specs.Small.{kept_seqs}
use Rattle.hm_race_states.proofs.Betweens.{process_kept}
use Rattle.hm_race_states.proofs.small.SmallSeqs.end.Goals as goal

pub returns-then-is_last_end : goal.returns-then-is_last_end
returns-then-is_last_end c = λ a q r.
    let y = c.spread-next.result in
    let s = kept_seqs c.args.self.now in
    let p = c.args.proc in
    process_kept y c.apply_all.new.intervals s c.number-at.result p c.seq_ended.result c.saturating_sub.result _ _ _ c.spread-next.ensures c.number-at.ensures.same (omega arith) (omega arith)
    c.seq_ended.ensures (c.saturating_sub.ensures ∙ ap (λ n. n - 1) c.active.ensures)
    (fun_ext (λ m. c.apply_all.ensures m ∙ (ap (λ (z : Sequences). applied p (z.interval m)) c.spread-next.ensures ∙ last_ended s p m c.is_last_end.result c.is_last_end.ensures c.if-is_last_end.true)))

pub returns-else-is_last_end : goal.returns-else-is_last_end
returns-else-is_last_end c = λ a q r.
    let y = c.spread-next.result in
    let s = kept_seqs c.args.self.now in
    let p = c.args.proc in
    process_kept y y.intervals s c.number-at.result p c.seq_ended.result c.saturating_sub.result _ _ _ c.spread-next.ensures c.number-at.ensures.same (omega arith) (omega arith)
    c.seq_ended.ensures (c.saturating_sub.ensures ∙ ap (λ n. n - 1) c.active.ensures)
    (fun_ext (λ m. ap (λ (z : Sequences). z.interval m) c.spread-next.ensures ∙ not_ended s p m c.is_last_end.result c.is_last_end.ensures c.if-is_last_end.false))
