use Rattle.std.proofs.Common.{◌≡◌, true, false, ◌&&◌, inl, inr, None, Some, sym, ap, ◌∙◌, arith}
use Rattle.std.proofs.lemmas.Bool.{and_right, cases_eq, cases_lt}
use Rattle.std.proofs.lemmas.Grind.{elements}
use Rattle.std.proofs.lemmas.Bool.Decides.{nat_tests}
use Rattle.hm_history.specs.Memory.Sequences.{is_above}
use Rattle.hm_folds.specs.Kept.{overlaps_at, overlaps_in, interval_of}
use Rattle.hm_folds.specs.declared.intervals.KeptInterval.{KeptInterval}
use Rattle.std.specs.Prelude.{Option}
use Rattle.std.proofs.lemmas.List.{get_or_default}
use Rattle.hm_folds.proofs.Sets.{find_at, find_none}
use Rattle.hm_race_states.proofs.Readings.{none_past}
use Rattle.hm_race_states.proofs.small.next_told.Goals as goal

pub loop-number-init : goal.loop-number-init
loop-number-init c = λ k l.
    let below : is_above c.args.after k ≡ false = c.first_above-number.ensures k ∙ grind (arith, nat_tests) in
    and_right (overlaps_at c.args.intervals.now c.args.proc c.args.span k) (is_above c.args.after k) below

pub loop-number-preserved : goal.loop-number-preserved
loop-number-preserved c = λ k l.
    let n = c.loop-number.number in
    let f = overlaps_at c.args.intervals.now c.args.proc c.args.span in
    let none : Option KeptInterval = None in
    let read = c.index-intervals-number.is ∙ get_or_default c.args.intervals.now n c.index-intervals-number.result none (omega arith) in
    let no : f n ≡ false = sym (ap (λ y. overlaps_in c.args.proc c.args.span (interval_of y)) read) ∙ sym c.overlaps.ensures ∙ c.if-overlaps.false in
    elim (cases_eq k n) [
      | inl e ↦ ap (λ j. f j && is_above c.args.after j) e ∙ ap (λ b. b && is_above c.args.after n) no
      | inr ne ↦ c.loop-number.invariant k (omega (arith, l, ne))
    ]

pub returns-then-overlaps : goal.returns-then-overlaps
returns-then-overlaps c =
    let f = overlaps_at c.args.intervals.now c.args.proc c.args.span in
    let n = c.loop-number.number in
    let up : is_above c.args.after n ≡ true = c.first_above-number.ensures n ∙ grind (arith, nat_tests) in
    ap Some c.new.ensures ∙ sym (find_at f (is_above c.args.after) 0 32 n (omega arith) (omega arith) (λ k o l. c.loop-number.invariant k l) (grind (arith, elements)) up)

pub returns : goal.returns
returns c =
    let xs = c.args.intervals.now in
    let f = overlaps_at xs c.args.proc c.args.span in
    sym (find_none f (is_above c.args.after) 0 32 (λ k o l. elim (cases_lt k c.loop-number.number) [
      | inl j ↦ c.loop-number.invariant k j
      | inr j ↦ ap (λ y. overlaps_in c.args.proc c.args.span y && is_above c.args.after k) (none_past xs k (omega (arith, j, c.loop-number-test.false)))
    ]))
