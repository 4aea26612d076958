use Rattle.std.proofs.Common.{ℕ, List, [], ◌∷◌, ◌++◌, ap, ◌∙◌}
use Rattle.hm_history.specs.Memory.Words.{bytes_from}
use Rattle.hm_race_states.specs.Bytes.{bytes_in}
use Rattle.hm_race_states.proofs.Askings.{bytes_next}
use Rattle.hm_race_states.proofs.here.bytes_of.Goals as goal

pub loop-number-preserved : goal.loop-number-preserved
loop-number-preserved c =
    let f : ℕ → ℕ = bytes_in c.args.bytes.now c.args.proc in
    let n = c.loop-number.number in
    c.in_ok-push.ensures.items ∙ ap (λ (xs : List ℕ). xs ++ c.byte.result ∷ []) c.loop-number.invariant
    ∙ ap (λ b. bytes_from f c.args.addr n ++ b ∷ []) c.byte.ensures
    ∙ bytes_next f c.args.addr n
