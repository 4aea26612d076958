use Rattle.std.proofs.Common.{◌≡◌, ℕ, Some, ap, ◌∙◌, if◌then◌else◌, slice_index_or, arith}
use Rattle.std.proofs.lemmas.List.{get_or_default}
use Rattle.hm_history.specs.Memory.Sequences.{Interval, Stage, interval_inserted, InTree, InsertDeferred, is_odd}
use Rattle.hm_folds.specs.Kept.{sequences_of, stage_of}
use Rattle.hm_folds.proofs.SeqSteps.{attach_kept, equal_from}
use Rattle.hm_folds.proofs.sequences.SeqState.attach.Goals as goal

pub returns : goal.returns
returns c = λ a d.
    let x = c.args.self.now in
    let s = sequences_of x in
    let p = c.args.proc in
    let made : ℕ → Stage → Interval = λ q t. record { proc = p; window = c.args.window; seq = q; stage = t } in
    let seq : c.args.seq ≡ interval_inserted s p = equal_from c.args.seq (interval_inserted s p) c.requires in
    let read : slice_index_or x.seqs c.number-at.result 0 ≡ s.seq p = get_or_default x.seqs c.number-at.result 0 2 (omega arith) ∙ ap s.seq c.number-at.ensures.same in
    let stage : stage_of c.first_stage.result ≡ (if is_odd (s.seq p) then InsertDeferred else InTree) =
    c.first_stage.ensures ∙ ap (λ b. if b then InsertDeferred else InTree) (c.is_odd-odd.ensures ∙ ap is_odd read) in
    attach_kept x c.number.result c.number-at.result c.args.mirror d p a c.args.seq c.seq_inserted.result c.args.window _ c.number.ensures.same c.number-at.ensures.same (omega arith) (omega arith) c.seq_inserted.ensures
    (ap (λ (q : ℕ). Some (made q (stage_of c.first_stage.result))) seq ∙ ap (λ (t : Stage). Some (made (interval_inserted s p) t)) stage)
