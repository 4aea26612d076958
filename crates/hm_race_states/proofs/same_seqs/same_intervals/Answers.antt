use Rattle.std.proofs.Common.{inl, inr, sym, ◌∙◌, arith}
use Rattle.std.proofs.lemmas.Bool.{cases_lt}
use Rattle.hm_race_states.proofs.Readings.{none_past}
use Rattle.hm_race_states.proofs.same_seqs.same_intervals.Goals as goal

pub returns-clause-yes : goal.returns-clause-yes
returns-clause-yes c = λ yes m. elim (cases_lt m c.loop-at.at) [
  | inl l ↦ c.loop-at.invariant m l
  | inr l ↦ none_past c.args.one.now m (omega (arith, l, c.loop-at-test.false)) ∙ sym (none_past c.args.other.now m (omega (arith, l, c.loop-at-test.false)))
]
