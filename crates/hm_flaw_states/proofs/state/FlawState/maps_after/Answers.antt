use Rattle.std.proofs.Common.{ℕ, Option, sym, ap, ◌∙◌}
use Rattle.std.proofs.Math.Path.{fun_ext}
use Rattle.hm_history.specs.Memory.Locks.{locks_start, map_next}
use Rattle.hm_history.specs.declared.locks.MapLock.{MapLock}
use Rattle.hm_race_keys.specs.Arrays.{lock_in}
use Rattle.hm_race_keys.specs.declared.map_locks.MapLocks.{MapLocks}
use Rattle.hm_flaw_states.specs.States.{locks_in}
use Rattle.hm_race_states.proofs.Nexts.{map_goes}
use Rattle.hm_flaw_states.proofs.state.FlawState.maps_after.Goals as goal

pub returns-then-same : goal.returns-then-same
returns-then-same c =
    ap (λ (x : MapLocks). lock_in x.locks) c.in_ok-clone.ensures.cases
    ∙ (sym (fun_ext (λ a. c.same.ensures.yes c.if-same.true a ∙ ap (λ (x : MapLocks). lock_in x.locks a) c.deref-2.ensures))
    ∙ (c.step.ensures ∙ (ap (λ (f : ℕ → Option MapLock). map_next (record locks_start { map = f }) c.args.actor c.args.kind.now) (fun_ext c.copy-new.ensures)
    ∙ (ap (λ (x : MapLocks). map_next (record locks_start { map = lock_in x.locks }) c.args.actor c.args.kind.now) c.deref.ensures
    ∙ map_goes (locks_in c.args.self.now) c.args.actor c.args.kind.now))))

pub returns : goal.returns
returns c =
    ap (λ (x : MapLocks). lock_in x.locks) c.in_ok-new.ensures.ok
    ∙ (c.step.ensures ∙ (ap (λ (f : ℕ → Option MapLock). map_next (record locks_start { map = f }) c.args.actor c.args.kind.now) (fun_ext c.copy-new.ensures)
    ∙ (ap (λ (x : MapLocks). map_next (record locks_start { map = lock_in x.locks }) c.args.actor c.args.kind.now) c.deref.ensures
    ∙ map_goes (locks_in c.args.self.now) c.args.actor c.args.kind.now)))
