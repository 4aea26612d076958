use Rattle.std.proofs.Common.{◌∙◌, ap, drop}
use Rattle.std.specs.Prelude.{find}
use Rattle.hm_protocol.specs.Known.{is_current}
use Rattle.hm_protocol.specs.Noted.{began}
use Rattle.hm_verdicts.specs.Settled.{IsOver}
use Rattle.hm_verdicts.proofs.Settled.{first_find}
use Rattle.hm_verdicts.proofs.AreOver.{current_not}
use Rattle.hm_verdicts.proofs.kept_calls.Calls.begun.Goals as goal

pub returns : goal.returns
returns c =
    let o = c.self.inside.over in
    let t = c.args.thread in
    let m = c.args.mirror in
    c.begun.ensures ∙ ap began (ap (find (is_current t m)) (c.rest.ensures ∙ ap (drop o.count) c.deref.ensures.value)
    ∙ (first_find (IsOver o) (is_current t m) (current_not t m o) o.count c.self.inside.items.items c.self.invariant.0
    ∙ ap (find (is_current t m)) c.self.view_is))
