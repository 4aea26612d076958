use Rattle.std.proofs.Common.{◌≡◌, true, sym, ap, ◌∙◌}
use Rattle.hm_base.specs.PlaceWords.{with_frame}
use Rattle.hm_race_keys.specs.FrameTables.{held_in}
use Rattle.hm_flaw_states.proofs.JudgedBy.{held_if}
use Rattle.hm_flaw_states.proofs.here.FlawHere.is_held.Goals as goal

pub returns : goal.returns
returns c =
    let held = held_in c.args.self.now.state.now.held.value in
    let f = c.args.frame.now in
    let new : held_in c.deref.result.now ≡ with_frame held f true = ap held_in c.deref.ensures ∙ c.in_ok-taken.ensures in
    let old : held_in c.deref-2.result.now ≡ held = ap held_in c.deref-2.ensures in
    held_if held f c.same.result
    (λ e. sym new ∙ (ap held_in (c.same.ensures.yes e) ∙ old))
    (λ h. c.same.ensures.no (λ g. ap (λ z. z g) new ∙ (h g ∙ sym (ap (λ z. z g) old))))
