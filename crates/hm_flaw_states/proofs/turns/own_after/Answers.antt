use Rattle.std.proofs.Common.{ap, ◌∙◌}
use Rattle.hm_flaw_states.specs.Owns.{driver_in}
use Rattle.hm_flaw_states.proofs.Going.{own_kept, own_made}
use Rattle.hm_flaw_states.proofs.turns.own_after.Goals as goal

pub returns-then-not-may_change : goal.returns-then-not-may_change
returns-then-not-may_change g c =
    own_kept c.args.flaw (g.W.Reads.program c.args.world.now) (g.W.Reads.state c.args.world.now) (driver_in c.args.own.now.value) (driver_in c.in_ok-clone.field-0.value) c.args.entry.now
    (ap driver_in c.in_ok-clone.ensures.cases) (c.may_change.ensures c.if-not-may_change.true)

pub returns : goal.returns
returns g c =
    own_made c.args.flaw (g.W.Reads.program c.args.world.now) (g.W.Reads.state c.args.world.now) (driver_in c.args.own.now.value) (driver_in c.in_ok-copy.copy) (driver_in c.in_ok-new.field-0.value) c.args.entry.now
    c.tells_own-tells.result c.tells_own-tells.ensures (c.in_ok-copy.ensures ∙ ap driver_in c.deref.ensures) (ap driver_in c.in_ok-new.ensures.ok ∙ c.in_ok-step.ensures)
