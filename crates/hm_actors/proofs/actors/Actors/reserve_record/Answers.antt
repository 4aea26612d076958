use Rattle.std.proofs.Common.{arith, subst, sym}
use Rattle.std.proofs.lemmas.Result.{on_err_weaker, on_ok_weaker}
use Rattle.hm_actors.specs.Actors.{TaskValue, HasRoom}
use Rattle.hm_actors.proofs.KeysKept.{keys_kept, changed, stays, goings_stay}
use Rattle.hm_actors.proofs.actors.Actors.reserve_record.Goals as goal

pub invariant_of-self : goal.invariant_of-self
invariant_of-self c = keys_kept c.self.inside.tasks.items c.self.inside.migrations c.reserve.new.migrations c.number-at.result c.index_mut-task.result.now c.reserve.new.self c.self.invariant c.index_mut-task.ensures.value (omega (arith, c.self.inside.tasks.ok.0)) c.reserve.ensures.changes

pub returns-clause-room : goal.returns-clause-room
returns-clause-room c = on_ok_weaker c.reserve.result
    (λ h. subst (λ (d : TaskValue). HasRoom c.args.kind.now d)
    (sym (changed c.self.inside.tasks.items c.self.inside.migrations c.reserve.new.migrations c.number-at.result c.index_mut-task.result.now c.reserve.new.self c.self.invariant c.index_mut-task.ensures.value (omega (arith, c.self.inside.tasks.ok.0)) c.reserve.ensures.changes
    c.args.actor c.number-at.ensures.same)) h)
    c.reserve.ensures.room

pub returns-clause-same : goal.returns-clause-same
returns-clause-same c = goings_stay c.self.inside.tasks.items c.self.inside.migrations c.reserve.new.migrations c.number-at.result c.index_mut-task.result.now c.reserve.new.self c.self.invariant c.index_mut-task.ensures.value (omega (arith, c.self.inside.tasks.ok.0)) c.reserve.ensures.changes
    c.args.self.now c.self.view_is c.args.actor c.number-at.ensures.same c.reserve.ensures.same

pub returns-clause-err : goal.returns-clause-err
returns-clause-err c = on_err_weaker c.reserve.result
    (stays c.self.inside.tasks.items c.self.inside.migrations c.reserve.new.migrations c.number-at.result c.index_mut-task.result.now c.reserve.new.self c.self.invariant c.index_mut-task.ensures.value (omega (arith, c.self.inside.tasks.ok.0)) c.reserve.ensures.changes
    c.args.self.now c.self.view_is c.args.actor c.number-at.ensures.same)
    c.reserve.ensures.err
