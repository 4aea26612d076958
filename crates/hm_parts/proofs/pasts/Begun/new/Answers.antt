use Rattle.std.proofs.Common.{ℕ, None}
use Rattle.std.specs.Prelude.{Option}
use Rattle.hm_folds.proofs.SeqSteps.{all_alike}
use Rattle.hm_parts.proofs.pasts.Begun.new.Goals as goal

pub returns : goal.returns
returns c = λ m. let gone : Option ℕ = None in all_alike gone 32 m
