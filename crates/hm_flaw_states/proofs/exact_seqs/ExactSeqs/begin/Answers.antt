use Rattle.std.proofs.Common.{◌+◌, ap, arith}
use Rattle.hm_history.specs.Memory.Sequences.{Sequences}
use Rattle.hm_flaw_states.specs.Exact.{exact_in}
use Rattle.hm_flaw_states.proofs.Exacts.{process_kept}
use Rattle.hm_flaw_states.proofs.exact_seqs.ExactSeqs.begin.Goals as goal

pub returns : goal.returns
returns c = λ a q.
    let y = c.copied-next.result in
    let s = exact_in c.args.self.now.kept in
    let same = ap exact_in c.copied-next.ensures in
    process_kept y y.intervals s c.number-at.result c.args.proc c.seq_started.result (c.active.result + 1) _ _ s.interval same c.number-at.ensures.same (omega arith) (omega arith)
    c.seq_started.ensures (ap (λ n. n + 1) c.active.ensures) (ap (λ (z : Sequences). z.interval) same)
