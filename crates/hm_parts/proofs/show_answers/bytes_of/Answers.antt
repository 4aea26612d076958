use Rattle.std.proofs.Common.{ℕ, List, [], ◌∷◌, ◌++◌, ap, ◌∙◌}
use Rattle.hm_folds.specs.Plain.{plain_of}
use Rattle.hm_parts.proofs.Showing.{bytes_grow}
use Rattle.hm_parts.proofs.show_answers.bytes_of.Goals as goal

pub loop-number-preserved : goal.loop-number-preserved
loop-number-preserved c =
    let f : ℕ → ℕ = (plain_of c.args.state.now).bytes c.args.proc in
    c.in_ok-push.ensures.ok ∙ ap (λ (xs : List ℕ). xs ++ c.byte.result ∷ []) c.loop-number.invariant
    ∙ bytes_grow f c.args.addr c.loop-number.number c.byte.result c.byte.ensures
