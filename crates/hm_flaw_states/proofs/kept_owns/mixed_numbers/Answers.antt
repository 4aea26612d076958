use Rattle.std.proofs.Common.{ℕ, sym, ap, ◌∙◌}
use Rattle.hm_flaw_states.specs.Owns.{seq_in}
use Rattle.hm_race_keys.specs.Sparse.{mixed}
use Rattle.hm_flaw_states.proofs.Mixing.{no_numbers, numbers_more}
use Rattle.hm_flaw_states.proofs.kept_owns.mixed_numbers.Goals as goal

pub loop-at-init : goal.loop-at-init
loop-at-init c = no_numbers _ _

pub loop-at-preserved : goal.loop-at-preserved
loop-at-preserved c =
    let f : ℕ → ℕ = seq_in c.args.numbers.now in
    c.mixed-total.ensures ∙ (ap (λ (t : ℕ). mixed t (f c.loop-at.at)) c.loop-at.invariant ∙ sym (numbers_more c.args.sum c.loop-at.at f))
