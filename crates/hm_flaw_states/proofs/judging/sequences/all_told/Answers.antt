use Rattle.std.proofs.Common.{ℕ, Bool, ◌==◌, sym, ◌∙◌, arith}
use Rattle.std.specs.List.{list_any}
use Rattle.std.proofs.lemmas.Grind.{elements}
use Rattle.hm_folds.specs.Kept.{has_mirror}
use Rattle.hm_folds.proofs.Sets.{all_true, all_false}
use Rattle.hm_flaw_states.proofs.judging.sequences.all_told.Goals as goal

pub returns-then-not-has : goal.returns-then-not-has
returns-then-not-has c =
    let P : ℕ → Bool = λ m. list_any (λ k. k == m) c.args.told.now in
    sym (all_false (has_mirror c.args.met.now) P 0 32 c.loop-number.number (omega arith) (omega arith) (grind (arith, elements)) (sym c.has.ensures ∙ c.if-not-has.true))

pub returns : goal.returns
returns c =
    let P : ℕ → Bool = λ m. list_any (λ k. k == m) c.args.told.now in
    sym (all_true (has_mirror c.args.met.now) P 0 32 (λ k l m e. c.loop-number.invariant k (omega arith) e))
