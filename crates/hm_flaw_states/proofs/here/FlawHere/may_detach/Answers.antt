use Rattle.std.proofs.Common.{◌≡◌, sym, ap, ◌∙◌}
use Rattle.hm_history.specs.Memory.Plain.{Gone, with_attachment}
use Rattle.hm_history.specs.Memory.Words.{with_at}
use Rattle.hm_race_states.specs.Mirrors.{mirrors_in}
use Rattle.hm_flaw_states.proofs.Answering.{detached_differs}
use Rattle.hm_flaw_states.proofs.here.FlawHere.may_detach.Goals as goal

pub returns : goal.returns
returns c =
    let f = mirrors_in c.args.self.now.state.now.mirrors.value in
    let m = c.args.mirror in
    let new : mirrors_in c.deref.result.now ≡ with_at f m (with_attachment Gone (f m)) = ap mirrors_in c.deref.ensures ∙ c.in_ok-detached.ensures in
    let old : mirrors_in c.deref-2.result.now ≡ f = ap mirrors_in c.deref-2.ensures in
    detached_differs f m c.same.result
    (λ e k. ap (λ g. g k) (sym new ∙ (ap mirrors_in (c.same.ensures.yes e) ∙ old)))
    (λ h. c.same.ensures.no (λ k. ap (λ g. g k) new ∙ (h k ∙ sym (ap (λ g. g k) old))))
