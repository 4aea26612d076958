use Rattle.std.proofs.Common.{◌≡◌, None, inl, inr, sym, ap, ◌∙◌, arith, length-set, rules}
use Rattle.std.specs.Prelude.{Option}
use Rattle.std.proofs.lemmas.Bool.{cases_lt}
use Rattle.std.proofs.lemmas.List.{get_or_default}
use Rattle.hm_history.proofs.Updates.{with_case}
use Rattle.hm_folds.specs.declared.intervals.KeptInterval.{KeptInterval}
use Rattle.hm_folds.specs.Kept.{interval_of, interval_at}
use Rattle.hm_folds.proofs.SeqSteps.{all_alike}
use Rattle.hm_folds.proofs.Writes.{shown_set}
use Rattle.hm_race_states.proofs.Readings.{none_past}
use Rattle.hm_race_states.proofs.small.copied.Goals as goal

pub loop-number-init : goal.loop-number-init
loop-number-init c =
    let none : Option KeptInterval = None in
    record {
      len = search rules;
      so_far = λ m l. absurd (omega (arith, l));
      rest = λ m l. ap interval_of (all_alike none 32 m);
    }

pub loop-number-preserved : goal.loop-number-preserved
loop-number-preserved c =
    let xs = c.loop-number.copy in
    let n = c.loop-number.number in
    let none : Option KeptInterval = None in
    let r = c.index-intervals-number.result in
    let read = c.index-intervals-number.is ∙ get_or_default c.args.intervals.now n r none (omega arith) in
    record {
      len = length-set xs n r ∙ c.loop-number.invariant.len;
      so_far = λ k l. shown_set interval_of xs n r none k (omega arith)
          ∙ with_case (λ j y. y ≡ interval_at c.args.intervals.now j) (interval_at xs) n (interval_of r) k (λ _. ap interval_of read) (λ ne. c.loop-number.invariant.so_far k (omega (arith, l, ne)));
      rest = λ k l. shown_set interval_of xs n r none k (omega arith)
          ∙ with_case (λ j y. y ≡ None) (interval_at xs) n (interval_of r) k (λ e. absurd (omega (arith, l, e))) (λ ne. c.loop-number.invariant.rest k (omega (arith, l)));
    }

pub returns : goal.returns
returns c = λ m. elim (cases_lt m c.loop-number.number) [
  | inl l ↦ c.loop-number.invariant.so_far m l
  | inr l ↦ c.loop-number.invariant.rest m l ∙ sym (none_past c.args.intervals.now m (omega (arith, l, c.loop-number-test.false)))
]
