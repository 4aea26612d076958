use Rattle.std.proofs.Common.{inl, inr, false, sym, ap, ◌∙◌, arith}
use Rattle.std.proofs.lemmas.Bool.{cases_lt}
use Rattle.std.proofs.Math.ListN.{get_or-eq_default}
use Rattle.hm_history.specs.Memory.Sequences.{is_odd}
use Rattle.hm_race_states.proofs.small.odd_ones.Goals as goal

pub returns : goal.returns
returns c = λ p. elim (cases_lt p 32) [
  | inl l ↦ c.loop-number.invariant.so_far p (omega (arith, l))
  | inr l ↦ get_or-eq_default c.loop-number.odd false (omega (arith, l)) ∙ sym (ap is_odd (get_or-eq_default c.args.seqs.now 2 (omega (arith, l))))
]
