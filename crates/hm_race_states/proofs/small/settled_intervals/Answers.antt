use Rattle.std.proofs.Common.{◌≡◌, None, ap, ◌∙◌, arith, length-set, slice_index_or}
use Rattle.std.specs.Prelude.{Option}
use Rattle.std.proofs.lemmas.List.{get_or_default}
use Rattle.hm_history.proofs.Updates.{with_case}
use Rattle.hm_history.specs.Memory.Sequences.{Interval}
use Rattle.hm_race_laws.specs.Numbers.{small_interval}
use Rattle.hm_folds.specs.declared.intervals.KeptInterval.{KeptInterval}
use Rattle.hm_folds.specs.Kept.{interval_of, interval_at}
use Rattle.hm_folds.proofs.Writes.{shown_set}
use Rattle.hm_race_states.proofs.small.settled_intervals.Goals as goal

pub loop-number-preserved : goal.loop-number-preserved
loop-number-preserved c =
    let xs = c.loop-number.settled in
    let n = c.loop-number.number in
    let made : Option Interval → Option Interval = small_interval (λ p. slice_index_or c.args.seqs.now p 2) in
    let none : Option KeptInterval = None in
    let r = c.settled_interval.result in
    let read = get_or_default c.args.intervals.now n c.index-intervals-number.result none (omega arith) in
    let here : interval_of r ≡ made (interval_at c.args.intervals.now n) =
    c.settled_interval.ensures ∙ ap (λ y. made (interval_of y)) read in
    record {
      len = length-set xs n r ∙ c.loop-number.invariant.len;
      so_far = λ k l. shown_set interval_of xs n r none k (omega arith)
          ∙ with_case (λ j y. y ≡ made (interval_at c.args.intervals.now j)) (interval_at xs) n (interval_of r) k (λ _. here) (λ ne. c.loop-number.invariant.so_far k (omega arith));
    }
