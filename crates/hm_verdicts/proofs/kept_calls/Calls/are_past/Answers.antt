use Rattle.std.proofs.Common.{◌∙◌, ap, sym, drop, not}
use Rattle.std.proofs.lemmas.Bool.{not-true}
use Rattle.std.specs.Prelude.{◌||◌}
use Rattle.std.specs.List.{list_all}
use Rattle.hm_protocol.specs.Words.{is_before}
use Rattle.hm_protocol.specs.Known.{Call, meets}
use Rattle.hm_protocol.specs.Noted.{is_past}
use Rattle.hm_verdicts.proofs.AreOver.{meets_not, all_passed}
use Rattle.hm_verdicts.proofs.kept_calls.Calls.are_past.Goals as goal

pub returns : goal.returns
returns c =
    let o = c.bounds.result in
    let m = c.args.mirror in
    let l = c.args.look.now in
    let b = is_before c.begun.result o.at in
    c.are_past.ensures ∙ (ap (list_all (λ (x : Call). not (meets l m x) || is_past l x))
    (c.rest.ensures ∙ ap (drop o.count) (c.deref.ensures.value ∙ c.self.view_is))
    ∙ all_passed (meets l m) (λ x. not (meets l m x) || is_past l x) (λ x e. ap (λ z. not z || is_past l x) e)
    (not b) o c.args.self.now c.bounds.ensures.passes
    (λ e x s. meets_not l m o x (sym (ap (λ g. is_before g o.at) c.begun.ensures) ∙ not-true b e) s)
    c.bounds.ensures.held)
