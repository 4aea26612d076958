use Rattle.std.proofs.Common.{refl, sym, subst}
use Rattle.hm_folds.specs.Ranges.{IsSized}
use Rattle.hm_folds.proofs.PlainParts.{sized_start, plain_starts}
use Rattle.hm_folds.proofs.plain.PlainState.start.Goals as goal

pub invariant_of-result : goal.invariant_of-result
invariant_of-result c = record { sized = subst IsSized (sym c.in_ok-new.ensures) sized_start }

pub returns : goal.returns
returns c = plain_starts c.in_ok-new.field-0 _ c.in_ok-new-2.field-0.processes.items _ c.in_ok-new.ensures refl (λ p a. c.in_ok-new-2.ensures p a) refl
