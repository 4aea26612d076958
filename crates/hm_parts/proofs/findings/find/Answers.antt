use Rattle.std.proofs.Common.{subst}
use Rattle.hm_history.specs.Kernel.Going.{State}
use Rattle.hm_parts.specs.Shown.{AreShownIn}
use Rattle.hm_parts.proofs.Standing.{stands_for}
use Rattle.hm_parts.proofs.findings.find.Goals as goal

pub shown_of-requires : goal.shown_of-requires
shown_of-requires g c =
    stands_for c.script.result.now (g.W.Reads.program c.args.world.now) c.args.entries.now (g.W.Reads.state c.args.world.now) c.in_ok-followed.followed
    c.script.ensures c.requires.state c.in_ok-followed.ensures

pub returns-clause-shown : goal.returns-clause-shown
returns-clause-shown g c =
    let p = g.W.Reads.program c.args.world.now in
    subst (λ (t : State). AreShownIn p t c.args.entry.now c.in_ok-shown.shown) c.requires.state c.in_ok-shown.ensures
