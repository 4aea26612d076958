use Rattle.std.proofs.Common.{◌-◌, ap, ◌∙◌, arith}
use Rattle.hm_history.specs.Memory.Sequences.{Sequences, intervals_ended}
use Rattle.hm_flaw_states.specs.Exact.{exact_in}
use Rattle.hm_flaw_states.proofs.Exacts.{process_kept}
use Rattle.hm_flaw_states.proofs.exact_seqs.ExactSeqs.end.Goals as goal

pub returns : goal.returns
returns c = λ a q r.
    let y = c.applied-next.result in
    let s = exact_in c.args.self.now.kept in
    let p = c.args.proc in
    process_kept y y.intervals (record s { interval = intervals_ended s p }) c.number-at.result p c.seq_ended.result c.saturating_sub.result _ _ (intervals_ended s p) c.applied-next.ensures c.number-at.ensures.same (omega arith) (omega arith)
    c.seq_ended.ensures (c.saturating_sub.ensures ∙ ap (λ n. n - 1) c.active.ensures) (ap (λ (z : Sequences). z.interval) c.applied-next.ensures)
