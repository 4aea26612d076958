use Rattle.std.proofs.Common.{ℕ, Bool, nat_lt, sym, arith}
use Rattle.std.proofs.lemmas.Grind.{elements}
use Rattle.std.proofs.lemmas.Bool.Decides.{nat_tests}
use Rattle.hm_folds.specs.Kept.{has_mirror}
use Rattle.hm_folds.proofs.Sets.{all_true, all_false}
use Rattle.hm_folds.proofs.guards.all_below.Goals as goal

pub returns-then-number : goal.returns-then-number
returns-then-number c =
    let P : ℕ → Bool = λ k. nat_lt k c.args.mirror in
    sym (all_false (has_mirror c.args.set.now) P 0 32 c.loop-number.number (omega arith) (omega arith) (grind (arith, elements)) (grind (arith, nat_tests)))

pub returns : goal.returns
returns c =
    let P : ℕ → Bool = λ k. nat_lt k c.args.mirror in
    sym (all_true (has_mirror c.args.set.now) P 0 32 (λ k l m e. grind (arith, nat_tests, c.loop-number.invariant k (omega arith) e)))
