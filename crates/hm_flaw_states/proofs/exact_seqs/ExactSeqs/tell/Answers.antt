use Rattle.std.proofs.Common.{ap, ◌∙◌, arith}
use Rattle.hm_history.specs.Memory.Sequences.{with_seq, interval_proc}
use Rattle.hm_folds.specs.Kept.{interval_of}
use Rattle.hm_flaw_states.specs.Exact.{exact_in}
use Rattle.hm_flaw_states.proofs.Exacts.{interval_kept}
use Rattle.hm_flaw_states.proofs.exact_seqs.ExactSeqs.tell.Goals as goal

pub returns : goal.returns
returns c = λ a q r.
    let y = c.copied-next.result in
    let s = exact_in c.args.self.now.kept in
    let same = ap exact_in c.copied-next.ensures in
    let m = c.args.mirror in
    let read = c.process_seq-of_process.ensures.same ∙ ap s.seq c.interval_proc.ensures in
    interval_kept y s c.number-at.result m c.with_seq.result _ same c.number-at.ensures.same (omega arith)
    (c.with_seq.ensures ∙ ap (λ q. with_seq q (interval_of c.interval.result)) read ∙ ap (with_seq (s.seq (interval_proc s m))) c.interval.ensures)
