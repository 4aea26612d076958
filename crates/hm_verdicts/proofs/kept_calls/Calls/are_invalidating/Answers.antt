use Rattle.std.proofs.Common.{◌∙◌, ap, drop}
use Rattle.std.specs.Prelude.{◌&&◌}
use Rattle.std.specs.List.{list_any}
use Rattle.hm_protocol.specs.Words.{is_it}
use Rattle.hm_protocol.specs.Known.{Call, is_telling}
use Rattle.hm_verdicts.specs.Settled.{IsOver}
use Rattle.hm_verdicts.proofs.Settled.{first_any}
use Rattle.hm_verdicts.proofs.AreOver.{telling_not}
use Rattle.hm_verdicts.proofs.kept_calls.Calls.are_invalidating.Goals as goal

pub returns : goal.returns
returns c =
    let o = c.self.inside.over in
    let m = c.args.mirror in
    c.are_invalidating.ensures ∙ (ap (list_any (λ (x : Call). is_telling m x && is_it x.after x.seq)) (c.rest.ensures
    ∙ ap (drop o.count) c.deref.ensures.value)
    ∙ (first_any (IsOver o) (λ x. is_telling m x && is_it x.after x.seq) (λ x s. ap (λ b. b && is_it x.after x.seq)
    (telling_not m o x s)) o.count c.self.inside.items.items c.self.invariant.0
    ∙ ap (list_any (λ (x : Call). is_telling m x && is_it x.after x.seq)) c.self.view_is))
