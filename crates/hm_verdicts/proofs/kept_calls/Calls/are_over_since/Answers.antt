use Rattle.std.proofs.Common.{◌∙◌, ap, drop, not}
use Rattle.std.proofs.lemmas.Bool.{not-true}
use Rattle.std.specs.Prelude.{◌&&◌, ◌==◌, nat_lt, is_some}
use Rattle.hm_protocol.specs.Words.{is_after}
use Rattle.hm_verdicts.specs.Asking.{are_over_since}
use Rattle.hm_verdicts.proofs.AreOver.{over_not, any_passed}
use Rattle.hm_verdicts.proofs.kept_calls.Calls.are_over_since.Goals as goal

pub returns : goal.returns
returns c =
    let o = c.bounds.result in
    let m = c.args.mirror in
    let i = c.args.last in
    let b = nat_lt i o.ended in
    c.are_over_since.ensures ∙ (ap (are_over_since m i)
    (c.rest.ensures ∙ ap (drop o.count) (c.deref.ensures.value ∙ c.self.view_is))
    ∙ any_passed (λ x. (x.mirror == m) && (is_some x.after && is_after x.ended i)) (not b) o c.args.self.now
    c.bounds.ensures.passes (λ e x s. over_not m i o x (not-true b e) s) c.bounds.ensures.held)
