use Rattle.std.proofs.Common.{◌≡◌, None, ap, ◌∙◌, arith}
use Rattle.std.specs.Prelude.{Option}
use Rattle.std.proofs.lemmas.List.{get_or_default}
use Rattle.hm_history.proofs.Updates.{with_case, other_at}
use Rattle.hm_history.specs.Memory.Sequences.{applied}
use Rattle.hm_folds.specs.declared.intervals.KeptInterval.{KeptInterval}
use Rattle.hm_folds.specs.Kept.{interval_of, interval_at}
use Rattle.hm_folds.proofs.Writes.{shown_set}
use Rattle.hm_folds.proofs.intervals.apply_all.Goals as goal

pub loop-number-preserved : goal.loop-number-preserved
loop-number-preserved c =
    let xs = c.loop-number.intervals in
    let n = c.loop-number.number in
    let p = c.args.proc in
    let none : Option KeptInterval = None in
    let r = c.applied.result in
    let read = get_or_default xs n c.index-intervals-number.result none (omega arith) in
    let here : interval_of r ≡ applied p (interval_at c.args.intervals.now n) =
    c.applied.ensures ∙ ap (λ y. applied p (interval_of y)) read ∙ ap (applied p) (c.loop-number.invariant.rest n (omega arith)) in
    record {
      before = λ k l. shown_set interval_of xs n r none k (omega arith)
          ∙ with_case (λ j y. y ≡ applied p (interval_at c.args.intervals.now j)) (interval_at xs) n (interval_of r) k (λ _. here) (λ ne. c.loop-number.invariant.before k (omega arith));
      rest = λ k l. shown_set interval_of xs n r none k (omega arith) ∙ other_at (interval_at xs) n k (interval_of r) (λ e. absurd (omega arith)) ∙ c.loop-number.invariant.rest k (omega arith);
    }
