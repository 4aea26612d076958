use Rattle.std.proofs.Common.{arith}
use Rattle.std.proofs.lemmas.Grind.{common_steps}
use Rattle.hm_why.specs.Changes.{change_at}
use Rattle.hm_why.proofs.LastChange.{none_is}
use Rattle.hm_why.proofs.changes.Changes.new.Goals as goal

pub returns : goal.returns
returns c = λ b. none_is (change_at (record { points = c.new.result })) b (λ k l. grind (arith, common_steps, c.new.ensures.empty))
