use Rattle.std.proofs.Common.{None, Global, refl, arith}
use Rattle.std.specs.Prelude.{Option}
use Rattle.std.specs.declared.rc.Rc.{Rc}
use Rattle.hm_folds.proofs.Writes.{written_at}
use Rattle.hm_flaw_states.specs.Guards.{guard_in}
use Rattle.hm_flaw_states.specs.declared.guards.ActorGuard.{ActorGuard}
use Rattle.hm_flaw_states.proofs.guards.ActorGuards.set.Goals as goal

pub returns : goal.returns
returns c =
    let none : Option (Rc ActorGuard Global) = None in
    written_at guard_in c.args.self.now.guards.items c.number.result c.args.actor c.args.guard none (guard_in c.args.guard) c.number.ensures.same (omega (arith, c.number.ensures.same, c.number.ensures.below, c.args.self.now.sized)) refl
