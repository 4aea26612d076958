use Rattle.std.proofs.Common.{ℕ, ◌<◌, None, refl, sym, ap, subst, arith}
use Rattle.std.proofs.Math.Path.{fun_ext}
use Rattle.std.specs.Prelude.{Option}
use Rattle.hm_folds.proofs.SeqSteps.{same_state, all_alike}
use Rattle.hm_folds.specs.Kept.{interval_of}
use Rattle.hm_folds.specs.declared.intervals.KeptInterval.{KeptInterval}
use Rattle.hm_flaw_states.proofs.exact_seqs.ExactSeqs.start.Goals as goal

pub invariant_of-result : goal.invariant_of-result
invariant_of-result c = record { below = λ p. subst (λ (n : ℕ). n < 18446744073709551615) (sym (all_alike 2 32 p)) (omega arith) }

pub returns : goal.returns
returns c =
    let none : Option KeptInterval = None in
    same_state _ _ (fun_ext (λ p. all_alike 2 32 p)) (fun_ext (λ p. all_alike 0 32 p)) (fun_ext (λ m. ap interval_of (all_alike none 32 m))) refl
