use Rattle.std.proofs.Common.{◌≡◌, ◌∙◌, ap, subst, reverse, drop, IfOk, map}
use Rattle.std.specs.Prelude.{◌==◌, ◌&&◌, is_none}
use Rattle.std.specs.List.{list_any}
use Rattle.hm_protocol.specs.Known.{Call}
use Rattle.hm_verdicts.specs.Changes.{erased_by}
use Rattle.hm_verdicts.specs.Numbers.{values_in}
use Rattle.hm_verdicts.specs.Settled.{First, IsOver}
use Rattle.hm_verdicts.proofs.Settled.{first_weaker, first_any}
use Rattle.hm_verdicts.proofs.AreOver.{erase_same, in_not}
use Rattle.hm_verdicts.proofs.all_calls.erase.Goals as goal

pub change-requires-clause-same : goal.change-requires-clause-same
change-requires-clause-same c =
    let o = c.args.over in
    let device = values_in c.args.devices.now in
    let ys = reverse c.args.moves.now in
    let t = c.args.thread in
    let m = c.args.mirror in
    let v = c.args.page in
    first_weaker (IsOver o) (λ x. erased_by device c.are_in.result ys t m v x ≡ x)
    (erase_same device c.are_in.result ys t m v o) o.count c.args.calls.now.items c.requires

pub returns : goal.returns
returns c =
    let o = c.args.over in
    let t = c.args.thread in
    let cs = c.args.calls.now.items in
    let e = c.are_in.ensures ∙ (ap (list_any (λ (y : Call). (y.thread == t) && is_none y.after))
    (c.rest.ensures ∙ ap (drop o.count) c.deref.ensures.value)
    ∙ first_any (IsOver o) (λ y. (y.thread == t) && is_none y.after) (in_not t o) o.count cs c.requires) in
    subst (λ b. IfOk c.change.result (λ p. (c.change.new.calls.items ≡ map (erased_by (values_in c.args.devices.now) b
    (reverse c.args.moves.now) t c.args.mirror c.args.page) cs) × First (IsOver p) p.count c.change.new.calls.items))
    e c.change.ensures
