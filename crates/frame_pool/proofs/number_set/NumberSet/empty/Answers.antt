use Rattle.std.proofs.Common.{◌≡◌, ℕ, length, ap, ◌∙◌, arith}
use Rattle.std.proofs.lemmas.List.{length-replicate}
use Rattle.frame_pool.proofs.Members.{none_of, summed_zeros}
use Rattle.frame_pool.proofs.number_set.NumberSet.empty.Goals as goal

pub returns : goal.returns
returns c = none_of c.args.size _ _ c.in_ok-words.ensures

pub invariant_of-result : goal.invariant_of-result
invariant_of-result c =
    let n : c.len.result ≡ c.div_ceil.result = c.len.ensures ∙ c.in_ok-words.words.ok.0 ∙ ap length c.in_ok-words.ensures ∙ length-replicate {A = ℕ} c.div_ceil.result 0 in
    summed_zeros c.args.size _ _ _ _ c.in_ok-words.ensures c.in_ok-summary.ensures (omega arith) (omega arith) (omega arith) (omega arith) (omega arith)
