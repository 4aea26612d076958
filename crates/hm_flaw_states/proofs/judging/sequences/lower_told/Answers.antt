use Rattle.std.proofs.Common.{ℕ, Bool, ◌==◌, ◌||◌, nat_le, sym, ap, ◌∙◌, arith}
use Rattle.std.specs.List.{list_any}
use Rattle.std.proofs.lemmas.Grind.{elements}
use Rattle.std.proofs.lemmas.Bool.Decides.{nat_tests}
use Rattle.hm_folds.specs.Kept.{has_mirror}
use Rattle.hm_folds.proofs.Sets.{all_true, all_false}
use Rattle.hm_flaw_states.proofs.judging.sequences.lower_told.Goals as goal

pub returns-then-not-has : goal.returns-then-not-has
returns-then-not-has c =
    let n = c.loop-number.number in
    let P : ℕ → Bool = λ k. nat_le c.args.mirror k || list_any (λ t. t == k) c.args.told.now in
    let no = sym c.has.ensures ∙ c.if-not-has.true in
    sym (all_false (has_mirror c.args.all.now) P 0 32 n (omega arith) (omega arith) (grind (arith, elements)) (ap (λ b. nat_le c.args.mirror n || b) no ∙ grind (arith, nat_tests)))

pub returns : goal.returns
returns c =
    let P : ℕ → Bool = λ k. nat_le c.args.mirror k || list_any (λ t. t == k) c.args.told.now in
    sym (all_true (has_mirror c.args.all.now) P 0 32 (λ k l m e. grind (arith, nat_tests, c.loop-number.invariant k (omega arith) e)))
