use Rattle.std.proofs.Common.{◌≡◌, ℕ, Bool, sym, ap, ◌∙◌, arith}
use Rattle.std.specs.Prelude.{if◌then◌else◌}
use Rattle.hm_race_keys.specs.Arrays.{flag_in}
use Rattle.hm_race_keys.specs.Sparse.{mixed}
use Rattle.hm_flaw_parts.proofs.Alike.{no_short, short_more}
use Rattle.hm_flaw_parts.proofs.marks.mixed_short.Goals as goal

pub loop-at-init : goal.loop-at-init
loop-at-init c = no_short _ _

pub loop-at-preserved : goal.loop-at-preserved
loop-at-preserved c =
    let f : ℕ → Bool = flag_in c.args.short.now in
    let i : ℕ = c.loop-at.at in
    let word : c.from.result ≡ (if f i then 1 else 0) = grind arith in
    c.mixed-total.ensures
    ∙ (ap (mixed c.loop-at.total) word
    ∙ (ap (λ (t : ℕ). mixed t (if f i then 1 else 0)) c.loop-at.invariant ∙ sym (short_more c.args.sum i f)))
