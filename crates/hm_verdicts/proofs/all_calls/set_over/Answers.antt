use Rattle.std.proofs.Common.{◌≡◌}
use Rattle.hm_protocol.specs.Noted.{after_set}
use Rattle.hm_verdicts.specs.Settled.{IsOver}
use Rattle.hm_verdicts.proofs.Settled.{first_weaker}
use Rattle.hm_verdicts.proofs.AreOver.{set_same}
use Rattle.hm_verdicts.proofs.all_calls.set_over.Goals as goal

pub change-requires-clause-same : goal.change-requires-clause-same
change-requires-clause-same c =
    let o = c.args.over in
    first_weaker (IsOver o) (λ x. after_set c.args.mirror c.args.page x ≡ x)
    (set_same c.args.mirror c.args.page o) o.count
    c.args.calls.now.items c.requires
