use Rattle.std.proofs.Common.{ℕ, ◌%◌, List, [], ◌∷◌, ◌++◌, ap, ◌∙◌}
use Rattle.hm_history.specs.Memory.Words.{bytes_from}
use Rattle.hm_history.specs.Memory.Contents.{shown_by}
use Rattle.hm_flaws.specs.Drivers.{target_at}
use Rattle.hm_flaw_states.specs.Owns.{driver_in}
use Rattle.hm_race_states.proofs.Askings.{bytes_next}
use Rattle.hm_flaw_states.proofs.found.Found.read_from.Goals as goal

pub loop-number-preserved : goal.loop-number-preserved
loop-number-preserved g c =
    let f : ℕ → ℕ = λ i. shown_by (driver_in c.args.self.now.own.now).contents (target_at (driver_in c.args.self.now.own.now) c.args.mirror i) (i % 4096) in
    let n = c.loop-number.number in
    c.in_ok-push.ensures.items ∙ ap (λ (xs : List ℕ). xs ++ c.read.result ∷ []) c.loop-number.invariant
    ∙ ap (λ b. bytes_from f c.args.addr n ++ b ∷ []) c.read.ensures
    ∙ bytes_next f c.args.addr n
