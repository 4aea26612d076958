use Rattle.std.proofs.Common.{ℕ, Bool, ◌==◌, ◌||◌, nat_le, sym, ap, ◌∙◌, arith}
use Rattle.std.specs.List.{list_any}
use Rattle.std.proofs.lemmas.Grind.{elements}
use Rattle.std.proofs.lemmas.Bool.Decides.{nat_tests}
use Rattle.hm_folds.specs.Kept.{has_mirror, mirrors_of}
use Rattle.hm_folds.proofs.Sets.{all_true, all_false, any_here}
use Rattle.hm_folds.proofs.guards.lower_told.Goals as goal

pub returns-then-not-told-number : goal.returns-then-not-told-number
returns-then-not-told-number c =
    let n = c.loop-number.number in
    let told = c.args.told.now in
    let P : ℕ → Bool = λ k. nat_le c.args.mirror k || list_any (λ t. t == k) (mirrors_of told) in
    let no = any_here (has_mirror told) 0 32 n (omega arith) (omega arith) in
    sym (all_false (has_mirror c.args.all.now) P 0 32 n (omega arith) (omega arith) (grind (arith, elements)) (ap (λ b. nat_le c.args.mirror n || b) no ∙ grind (arith, elements, nat_tests)))

pub returns : goal.returns
returns c =
    let told = c.args.told.now in
    let P : ℕ → Bool = λ k. nat_le c.args.mirror k || list_any (λ t. t == k) (mirrors_of told) in
    sym (all_true (has_mirror c.args.all.now) P 0 32 (λ k l m e. ap (λ b. nat_le c.args.mirror k || b) (any_here (has_mirror told) 0 32 k l m) ∙ grind (arith, nat_tests, c.loop-number.invariant k (omega arith) e)))
