use Rattle.std.proofs.Common.{ℕ, Bool, Option, Some, ◌&&◌, ◌==◌, sym, ap, ◌∙◌, arith}
use Rattle.hm_history.specs.Memory.Locks.{lock_passes}
use Rattle.hm_history.specs.declared.locks.MapLock.{MapLock}
use Rattle.hm_flaws.specs.Flawed.{locks_held}
use Rattle.hm_spaces.proofs.Least.{least_found, least_none}
use Rattle.hm_flaw_states.specs.Found.{is_writer}
use Rattle.hm_flaw_states.proofs.held_locks.writer.Goals as goal

pub returns-then-writes : goal.returns-then-writes
returns-then-writes g c =
    let held : ℕ → Option MapLock = locks_held c.args.flaw (g.W.Reads.program c.args.world.now) (g.W.Reads.state c.args.world.now) in
    let test : MapLock → Bool = λ x. (x.proc == c.args.proc) && x.writes in
    ap (λ (a : ℕ). Some a) c.new-actor.ensures
    ∙ least_found (is_writer held c.args.proc) 16 c.loop-at.at (omega arith) c.loop-at.invariant
    (ap (λ (a : ℕ). lock_passes test (held a)) (sym c.new-actor.ensures) ∙ (ap (lock_passes test) (sym c.held_by.ensures) ∙ (sym c.writes.ensures ∙ c.if-writes.true)))

pub returns : goal.returns
returns g c = least_none (is_writer (locks_held c.args.flaw (g.W.Reads.program c.args.world.now) (g.W.Reads.state c.args.world.now)) c.args.proc) 16 (λ k l. c.loop-at.invariant k (omega arith))
