use Rattle.std.proofs.Common.{◌∙◌, ap, sym, drop, not}
use Rattle.std.proofs.lemmas.Bool.{not-true}
use Rattle.std.specs.List.{list_any}
use Rattle.hm_protocol.specs.Words.{is_before}
use Rattle.hm_protocol.specs.Known.{meets}
use Rattle.hm_verdicts.proofs.AreOver.{meets_not, any_passed}
use Rattle.hm_verdicts.proofs.kept_calls.Calls.are_met.Goals as goal

pub returns : goal.returns
returns c =
    let o = c.bounds.result in
    let m = c.args.mirror in
    let l = c.args.look.now in
    let b = is_before c.begun.result o.at in
    c.are_met.ensures ∙ (ap (list_any (meets l m))
    (c.rest.ensures ∙ ap (drop o.count) (c.deref.ensures.value ∙ c.self.view_is))
    ∙ any_passed (meets l m) (not b) o c.args.self.now c.bounds.ensures.passes
    (λ e x s. meets_not l m o x (sym (ap (λ g. is_before g o.at) c.begun.ensures) ∙ not-true b e) s)
    c.bounds.ensures.held)
