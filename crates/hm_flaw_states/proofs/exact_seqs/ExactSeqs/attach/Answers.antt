use Rattle.std.proofs.Common.{◌≡◌, ℕ, Some, ap, ◌∙◌, if◌then◌else◌, arith}
use Rattle.hm_history.specs.Memory.Sequences.{Interval, Stage, interval_inserted, InTree, InsertDeferred, is_odd}
use Rattle.hm_folds.specs.Kept.{stage_of}
use Rattle.hm_flaw_states.specs.Exact.{exact_in}
use Rattle.hm_flaw_states.proofs.Exacts.{attach_kept}
use Rattle.hm_flaw_states.proofs.exact_seqs.ExactSeqs.attach.Goals as goal

pub returns : goal.returns
returns c = λ a d q.
    let y = c.copied-next.result in
    let s = exact_in c.args.self.now.kept in
    let same = ap exact_in c.copied-next.ensures in
    let p = c.args.proc in
    let made : ℕ → Stage → Interval = λ q t. record { proc = p; window = c.args.window; seq = q; stage = t } in
    let stage : stage_of c.first_stage.result ≡ (if is_odd (s.seq p) then InsertDeferred else InTree) =
    c.first_stage.ensures ∙ ap (λ b. if b then InsertDeferred else InTree) c.is_odd.ensures in
    attach_kept y s c.number.result p c.seq_inserted.result _ c.number-2.result c.args.mirror _ _ same c.number.ensures.same (omega arith) c.seq_inserted.ensures c.number-2.ensures.same (omega arith)
    (ap (λ (q : ℕ). Some (made q (stage_of c.first_stage.result))) c.interval_inserted.ensures ∙ ap (λ (t : Stage). Some (made (interval_inserted s p) t)) stage)
