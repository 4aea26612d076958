use Rattle.std.proofs.Common.{ℕ, Bool, ◌==◌, sym, ◌∙◌, arith}
use Rattle.std.specs.List.{list_any}
use Rattle.std.proofs.lemmas.Grind.{elements}
use Rattle.hm_folds.specs.Kept.{has_mirror, mirrors_of}
use Rattle.hm_folds.proofs.Sets.{all_true, all_false, any_here}
use Rattle.hm_folds.proofs.guards.all_told.Goals as goal

pub returns-then-not-told-number : goal.returns-then-not-told-number
returns-then-not-told-number c =
    let n = c.loop-number.number in
    let told = c.args.told.now in
    let P : ℕ → Bool = λ m. list_any (λ k. k == m) (mirrors_of told) in
    sym (all_false (has_mirror c.args.met.now) P 0 32 n (omega arith) (omega arith) (grind (arith, elements)) (any_here (has_mirror told) 0 32 n (omega arith) (omega arith) ∙ grind (arith, elements)))

pub returns : goal.returns
returns c =
    let told = c.args.told.now in
    let P : ℕ → Bool = λ m. list_any (λ k. k == m) (mirrors_of told) in
    sym (all_true (has_mirror c.args.met.now) P 0 32 (λ k l m e. any_here (has_mirror told) 0 32 k l m ∙ c.loop-number.invariant k (omega arith) e))
