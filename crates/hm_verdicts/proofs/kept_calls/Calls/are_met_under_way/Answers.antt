use Rattle.std.proofs.Common.{◌∙◌, ap, sym, drop, not}
use Rattle.std.proofs.lemmas.Bool.{not-true}
use Rattle.std.specs.Prelude.{◌&&◌}
use Rattle.std.specs.List.{list_any}
use Rattle.hm_protocol.specs.Words.{is_before}
use Rattle.hm_protocol.specs.Known.{Call, meets, goes_on}
use Rattle.hm_verdicts.proofs.AreOver.{meets_not, any_passed}
use Rattle.hm_verdicts.proofs.kept_calls.Calls.are_met_under_way.Goals as goal

pub returns : goal.returns
returns c =
    let o = c.bounds.result in
    let m = c.args.mirror in
    let l = c.args.look.now in
    let b = is_before c.begun.result o.at in
    c.are_met_under_way.ensures ∙ (ap (list_any (λ (x : Call). meets l m x && goes_on x))
    (c.rest.ensures ∙ ap (drop o.count) (c.deref.ensures.value ∙ c.self.view_is))
    ∙ any_passed (λ x. meets l m x && goes_on x) (not b) o c.args.self.now c.bounds.ensures.passes
    (λ e x s. ap (λ z. z && goes_on x)
    (meets_not l m o x (sym (ap (λ g. is_before g o.at) c.begun.ensures) ∙ not-true b e) s))
    c.bounds.ensures.held)
