use Rattle.std.proofs.Common.{sym, ◌∙◌, arith}
use Rattle.hm_folds.specs.Kept.{sequences_of, guarded, overlaps_in, interval_of}
use Rattle.hm_folds.proofs.SeqSteps.{not_below, not_overlaps, is_next}
use Rattle.hm_folds.proofs.Writes.{read_at}
use Rattle.hm_folds.proofs.sequences.SeqState.is_next_told.Goals as goal

pub returns-then-not-all_below : goal.returns-then-not-all_below
returns-then-not-all_below c = not_below (sequences_of c.args.self.now) (guarded c.args.guard.now) c.args.mirror (sym c.all_below.ensures ∙ c.if-not-all_below.true)

pub returns-then-not-overlaps : goal.returns-then-not-overlaps
returns-then-not-overlaps c =
    let x = c.args.self.now in
    let g = c.args.guard.now in
    let read = read_at (λ o. overlaps_in g.proc g.span (interval_of o)) x.intervals c.number.result c.args.mirror c.index-self-number.result c.number.ensures.same (omega arith) in
    not_overlaps (sequences_of x) (guarded g) c.args.mirror (sym read ∙ sym c.overlaps.ensures ∙ c.if-not-overlaps.true)

pub returns : goal.returns
returns c =
    let x = c.args.self.now in
    let g = c.args.guard.now in
    let read = read_at (λ o. overlaps_in g.proc g.span (interval_of o)) x.intervals c.number.result c.args.mirror c.index-self-number.result c.number.ensures.same (omega arith) in
    c.lower_told.ensures ∙ is_next (sequences_of x) (guarded g) c.args.mirror _ (sym c.all_below.ensures ∙ c.if-not-all_below.false) (sym read ∙ sym c.overlaps.ensures ∙ c.if-not-overlaps.false) c.overlapping-all.ensures
