use Rattle.std.proofs.Common.{ℕ, List, [], ◌∷◌, ◌++◌, ap, ◌∙◌}
use Rattle.hm_history.specs.Memory.Words.{bytes_from}
use Rattle.hm_flaws.specs.Flawed.{shown_bytes}
use Rattle.hm_flaw_states.specs.Owns.{driver_in}
use Rattle.hm_race_states.proofs.Askings.{bytes_next}
use Rattle.hm_flaw_states.proofs.found.Found.shown_from.Goals as goal

pub loop-number-preserved : goal.loop-number-preserved
loop-number-preserved g c =
    let f : ℕ → ℕ = shown_bytes (g.W.Reads.state c.args.self.now.world.now).after.places (driver_in c.args.self.now.own.now).contents c.args.proc in
    let n = c.loop-number.number in
    c.in_ok-push.ensures.items ∙ ap (λ (xs : List ℕ). xs ++ c.shown.result ∷ []) c.loop-number.invariant
    ∙ ap (λ b. bytes_from f c.args.addr n ++ b ∷ []) c.shown.ensures
    ∙ bytes_next f c.args.addr n
