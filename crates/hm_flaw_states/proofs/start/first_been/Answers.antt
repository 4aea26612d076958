use Rattle.std.proofs.Common.{◌≡◌, ℕ, ◌==◌, true, false, replicate, slice_index_or, ◌∙◌, arith}
use Rattle.std.proofs.Math.Path.{fun_ext}
use Rattle.std.proofs.lemmas.Bool.Decides.{nat_tests}
use Rattle.hm_folds.proofs.SeqSteps.{all_alike}
use Rattle.hm_folds.proofs.Writes.{set_at}
use Rattle.hm_history.specs.Memory.Words.{with_at}
use Rattle.hm_flaw_states.proofs.start.first_been.Goals as goal

by : (p : ℕ) → slice_index_or (replicate 32 false) p false ≡ false → with_at (λ j. slice_index_or (replicate 32 false) j false) 0 true p ≡ (p == 0)
by p e = grind (arith, nat_tests)

pub returns : goal.returns
returns c = fun_ext (λ p. set_at (replicate 32 false) 0 true false p (omega arith) ∙ by p (all_alike false 32 p))
