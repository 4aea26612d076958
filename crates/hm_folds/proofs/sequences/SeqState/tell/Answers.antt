use Rattle.std.proofs.Common.{◌≡◌, ap, slice_index_or, ◌∙◌, arith}
use Rattle.std.proofs.lemmas.List.{get_or_default}
use Rattle.std.specs.Prelude.{Option, nat_lt}
use Rattle.std.specs.List.{list_all}
use Rattle.hm_history.specs.Memory.Sequences.{Guarded, with_seq, with_told, guard_passes, interval_proc}
use Rattle.hm_folds.specs.declared.guards.KeptGuard.{KeptGuard}
use Rattle.hm_folds.specs.Kept.{sequences_of, guard_of, guards_proc, interval_of}
use Rattle.hm_folds.proofs.SeqSteps.{told_kept, told_below}
use Rattle.hm_folds.proofs.Writes.{read_at}
use Rattle.hm_folds.proofs.sequences.SeqState.tell.Goals as goal

pub with_told-requires : goal.with_told-requires
with_told-requires c =
    let x = c.args.self.now in
    let passes = λ (o : Option KeptGuard). guard_passes (λ (g : Guarded). list_all (λ k. nat_lt k c.args.mirror) g.told) (guard_of o) in
    read_at passes x.guards c.number-by.result c.args.actor c.index-self-by.result c.number-by.ensures.same (omega arith)
    ∙ told_below (sequences_of x) c.args.actor c.args.mirror c.args.seq c.args.span c.requires

pub returns : goal.returns
returns c =
    let x = c.args.self.now in
    let i = c.number-at.result in
    let j = c.number-by.result in
    let m = c.args.mirror in
    let s = sequences_of x in
    let read : slice_index_or x.seqs c.number.result 0 ≡ s.seq (interval_proc s m) =
    get_or_default x.seqs c.number.result 0 2 (omega arith) ∙ ap s.seq (c.number.ensures.same ∙ c.interval_proc.ensures) in
    told_kept x i j m c.args.actor c.args.seq c.args.span c.with_seq.result c.with_told.result c.number-at.ensures.same c.number-by.ensures.same (omega arith) (omega arith)
    (c.with_seq.ensures ∙ ap (λ q. with_seq q (interval_of (slice_index_or x.intervals i c.index-self-at.result))) read ∙ read_at (λ o. with_seq (s.seq (interval_proc s m)) (interval_of o)) x.intervals i m c.index-self-at.result c.number-at.ensures.same (omega arith))
    (c.with_told.ensures.told ∙ read_at (λ o. with_told m (guard_of o)) x.guards j c.args.actor c.index-self-by.result c.number-by.ensures.same (omega arith))
    (λ k. c.with_told.ensures.proc k ∙ read_at (guards_proc k) x.guards j c.args.actor c.index-self-by.result c.number-by.ensures.same (omega arith))
