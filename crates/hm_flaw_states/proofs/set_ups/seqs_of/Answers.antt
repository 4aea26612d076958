use Rattle.std.proofs.Common.{Option, inl, inr, sym, ap, ◌∙◌, arith}
use Rattle.std.proofs.lemmas.Bool.{cases_lt}
use Rattle.std.proofs.Math.ListN.{get_or-eq_default}
use Rattle.hm_folds.specs.Kept.{seq_in}
use Rattle.hm_history.specs.Memory.Sequences.{Interval}
use Rattle.hm_flaw_states.proofs.set_ups.seqs_of.Goals as goal

pub returns : goal.returns
returns c = λ m. elim (cases_lt m 32) [
  | inl l ↦ c.loop-number.invariant.same m (omega (arith, l))
  | inr l ↦ get_or-eq_default c.loop-number.all 0 (omega (arith, l)) ∙ sym (ap (λ (o : Option Interval). seq_in o) (c.none_past.ensures m l))
]
