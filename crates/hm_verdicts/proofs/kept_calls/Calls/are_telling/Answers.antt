use Rattle.std.proofs.Common.{◌∙◌, ap, drop}
use Rattle.std.specs.List.{list_any}
use Rattle.hm_protocol.specs.Known.{is_telling}
use Rattle.hm_verdicts.specs.Settled.{IsOver}
use Rattle.hm_verdicts.proofs.Settled.{first_any}
use Rattle.hm_verdicts.proofs.AreOver.{telling_not}
use Rattle.hm_verdicts.proofs.kept_calls.Calls.are_telling.Goals as goal

pub returns : goal.returns
returns c =
    let o = c.self.inside.over in
    let m = c.args.mirror in
    c.are_telling.ensures ∙ (ap (list_any (is_telling m)) (c.rest.ensures ∙ ap (drop o.count) c.deref.ensures.value)
    ∙ (first_any (IsOver o) (is_telling m) (telling_not m o) o.count c.self.inside.items.items c.self.invariant.0
    ∙ ap (list_any (is_telling m)) c.self.view_is))
