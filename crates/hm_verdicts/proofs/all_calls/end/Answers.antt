use Rattle.std.proofs.Common.{refl, ◌≡◌, subst, sym}
use Rattle.std.specs.Prelude.{nat_lt}
use Rattle.hm_protocol.specs.Noted.{after_end}
use Rattle.hm_verdicts.specs.Settled.{First}
use Rattle.hm_verdicts.specs.declared.over.Over.{Over}
use Rattle.hm_verdicts.proofs.AreOver.{end_fixed}
use Rattle.hm_verdicts.proofs.all_calls.end.Goals as goal

pub change-requires-clause-same : goal.change-requires-clause-same
change-requires-clause-same c =
    let o = c.args.over in
    let i = c.args.begun in
    let j = c.args.at in
    let cs = c.args.calls.now.items in
    subst (λ (p : Over). First (λ x. after_end i j x ≡ x) p.count cs) (sym c.before_end.ensures)
    (end_fixed i j (nat_lt o.of i) o cs refl c.requires)
