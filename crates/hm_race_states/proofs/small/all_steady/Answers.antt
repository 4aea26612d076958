use Rattle.std.proofs.Common.{◌≡◌, ℕ, inl, inr, false, None, refl, sym, ◌∙◌, arith, subst, slice_index_or}
use Rattle.std.specs.Prelude.{Option}
use Rattle.std.proofs.lemmas.Bool.{cases_lt, cases_eq}
use Rattle.std.proofs.lemmas.List.{get_or_default}
use Rattle.std.proofs.Math.ListN.{get_or-eq_default}
use Rattle.hm_race_laws.specs.Numbers.{small_interval}
use Rattle.hm_folds.specs.Kept.{interval_of, interval_at}
use Rattle.hm_folds.specs.declared.intervals.KeptInterval.{KeptInterval}
use Rattle.hm_race_states.specs.SeqBy.{seq_by}
use Rattle.hm_race_states.proofs.small.all_steady.Goals as goal

pub loop-number-preserved : goal.loop-number-preserved
loop-number-preserved c =
    let xs = c.args.intervals.now in
    let n = c.loop-number.number in
    let none : Option KeptInterval = None in
    let f : ℕ → ℕ = λ p. seq_by (slice_index_or c.args.odd.now p false) in
    let read = c.index-intervals-number.is ∙ get_or_default xs n c.index-intervals-number.result none (omega arith) in
    λ m l. elim (cases_eq n m) [
      | inl e ↦ subst (λ k. small_interval f (interval_at xs k) ≡ interval_at xs k) e (subst (λ y. small_interval f (interval_of y) ≡ interval_of y) read (c.is_steady_at.ensures c.if-not-is_steady_at.false))
      | inr ne ↦ c.loop-number.invariant m (omega (arith, l, ne))
    ]

pub returns : goal.returns
returns c =
    let xs = c.args.intervals.now in
    let n = c.loop-number.number in
    let none : Option KeptInterval = None in
    let f : ℕ → ℕ = λ p. seq_by (slice_index_or c.args.odd.now p false) in
    λ yes m. elim (cases_lt m n) [
      | inl l ↦ c.loop-number.invariant m l
      | inr l ↦ subst (λ y. small_interval f (interval_of y) ≡ interval_of y) (sym (get_or-eq_default xs none (omega (arith, l, c.loop-number-test.false)))) refl
    ]
